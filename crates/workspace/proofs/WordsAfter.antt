-- Turns of the workspace keep its length and the words behind it; turns after others; how much they count, and how many are made. Assumes nothing.
use Prim.Native.Nat.{ℕ, zero, suc, ◌+◌, ◌-◌, ◌*◌, ◌/◌, ◌%◌, ◌≤◌, ◌<◌}
use native.Mathlib.Nat.{add-zero, add-suc, add_assoc}
use native.Mathlib.Omega.{arith}
use mathlib.Core.Path.{◌≡◌, refl, sym, ap, ◌∙◌, subst}
use mathlib.Core.List.{List}
use lib.IntN.{ℤ, pos}
use lib.ListN.{length, get_or, take, drop, length-append, length-drop}
use lib.Seq.{length-take-le, ext_get_or, get_or-drop, get_or-append-add}
use Rattle.rotation.specs.Turn.{turned}
use Rattle.rotation.specs.Saturations.{added, CountOf}
use Rattle.rotation.proofs.Turn.{turned-length, turned_other, turn_count, turn_made_le}
use Rattle.rotation.proofs.Counts.{added_none, added_assoc}
use Rattle.schedule.specs.declared.Rotation.{Rotation}
use Rattle.schedule.specs.Schedule.{rotation_at_of}
use Rattle.schedule.proofs.Clear.{rotation_shape}
use Rattle.workspace.specs.Rotations.{rows_from, workspace_turned, workspace_saturations, workspace_made, words_after, saturations_counted, turns_made}

-- ---- one turn

module _ (t : Rotation) (l : List ℤ) (ordered : t.column ≤ t.upper) (apart : t.upper < t.lower) (inside : t.lower < 16) (room : 512 ≤ length l) where
  -- the part from the upper row on has the lower row, and the rows above it stand before it
  pub part_room : (t.lower - t.upper) * 32 + 32 ≤ length (rows_from t l)
  part_room = rw length-drop (omega arith)

  pub above_length : length (take (t.upper * 32) l) ≡ t.upper * 32
  above_length = length-take-le (t.upper * 32) l (omega arith)

  pub workspace-length : length (workspace_turned t l) ≡ length l
  unfolding workspace_turned
  workspace-length = simp (length-append, above_length, turned-length t.column (t.lower - t.upper) (rows_from t l), length-drop) (omega arith)

  -- the words from the upper row on are those of the part
  pub from_part : (i : ℕ) → get_or (workspace_turned t l) (t.upper * 32 + i) (pos 0) ≡ get_or (turned t.column (t.lower - t.upper) (rows_from t l)) i (pos 0)
  unfolding workspace_turned
  from_part i =
      subst (λ (n : ℕ). get_or (workspace_turned t l) (n + i) (pos 0) ≡ get_or (turned t.column (t.lower - t.upper) (rows_from t l)) i (pos 0)) above_length
      (get_or-append-add (take (t.upper * 32) l) (turned t.column (t.lower - t.upper) (rows_from t l)) i (pos 0))

  -- the words behind the 16 rows stay
  behind : (j : ℕ) → 512 ≤ j → get_or (workspace_turned t l) j (pos 0) ≡ get_or l j (pos 0)
  behind j h =
      let i : ℕ = j - t.upper * 32 in
      let e : t.upper * 32 + i ≡ j = omega arith in
      let p : i / 32 * 32 + i % 32 ≡ i = omega arith in
      let o = turned_other t.column (t.lower - t.upper) (rows_from t l) (i / 32) (i % 32) (omega arith) (λ q. omega arith) (λ q. omega arith) in
      subst (λ (n : ℕ). get_or (workspace_turned t l) n (pos 0) ≡ get_or l n (pos 0)) e
      (from_part i
      ∙ subst (λ (n : ℕ). get_or (turned t.column (t.lower - t.upper) (rows_from t l)) n (pos 0) ≡ get_or (rows_from t l) n (pos 0)) p o
      ∙ get_or-drop (t.upper * 32) l i (pos 0))

-- ---- turns of the schedule

pub words-length : (n k : ℕ) (l : List ℤ) → n + k ≤ 120 → 512 ≤ length l → length (words_after n k l) ≡ length l
unfolding words_after
words-length n zero l h room = refl
words-length n (suc k) l h room =
    let s = rotation_shape (n + k) (omega arith) in
    let e = words-length n k l (omega arith) room in
    workspace-length (rotation_at_of (n + k)) (words_after n k l) s.0 s.1 s.2 (omega arith) ∙ e

words_behind : (n k : ℕ) (l : List ℤ) → n + k ≤ 120 → 512 ≤ length l → (j : ℕ) → 512 ≤ j → get_or (words_after n k l) j (pos 0) ≡ get_or l j (pos 0)
unfolding words_after
words_behind n zero l h room j q = refl
words_behind n (suc k) l h room j q =
    let s = rotation_shape (n + k) (omega arith) in
    behind (rotation_at_of (n + k)) (words_after n k l) s.0 s.1 s.2 (omega (arith, words-length n k l (omega arith) room)) j q
    ∙ words_behind n k l (omega arith) room j q

-- they leave the words from 512 on
pub words_tail : (n k : ℕ) (l : List ℤ) → n + k ≤ 120 → 512 ≤ length l → drop 512 (words_after n k l) ≡ drop 512 l
words_tail n k l h room =
    ext_get_or (pos 0) (drop 512 (words_after n k l)) (drop 512 l)
    (length-drop 512 (words_after n k l) ∙ ap (λ (m : ℕ). m - 512) (words-length n k l h room) ∙ sym (length-drop 512 l))
    (λ i q. get_or-drop 512 (words_after n k l) i (pos 0) ∙ words_behind n k l h room (512 + i) (omega arith) ∙ sym (get_or-drop 512 l i (pos 0)))

-- ---- j turns and then k are j + k turns

pub words_more : (n j k : ℕ) (l : List ℤ) → words_after (n + j) k (words_after n j l) ≡ words_after n (j + k) l
unfolding words_after
words_more n j zero l = rw (add-zero j)
words_more n j (suc k) l = rw (add-suc j k, ← words_more n j k l, add_assoc n j k)

pub saturations_more : (n j k : ℕ) (l : List ℤ) → added (saturations_counted n j l) (saturations_counted (n + j) k (words_after n j l)) ≡ saturations_counted n (j + k) l
unfolding saturations_counted
saturations_more n j zero l = rw (add-zero j) (added_none (saturations_counted n j l))
saturations_more n j (suc k) l =
    rw (add-suc j k, ← saturations_more n j k l, words_more n j k l, add_assoc n j k)
    (sym (added_assoc (saturations_counted n j l) (saturations_counted (n + j) k (words_after n j l)) (workspace_saturations (rotation_at_of (n + (j + k))) (words_after n (j + k) l))))

pub turns_made_more : (n j k : ℕ) (l : List ℤ) → turns_made n j l + turns_made (n + j) k (words_after n j l) ≡ turns_made n (j + k) l
unfolding turns_made
turns_made_more n j zero l = rw (add-zero j) (add-zero (turns_made n j l))
turns_made_more n j (suc k) l =
    rw (add-suc j k, ← turns_made_more n j k l, words_more n j k l, add_assoc n j k)
    (sym (add_assoc (turns_made n j l) (turns_made (n + j) k (words_after n j l)) (workspace_made (rotation_at_of (n + (j + k))) (words_after n (j + k) l))))

-- ---- a turn's count

pub turn_count_one : (t : Rotation) (l : List ℤ) → CountOf 1 (workspace_saturations t l)
unfolding workspace_saturations
turn_count_one t l = turn_count t.column (t.lower - t.upper) (rows_from t l)

pub turn_made_one : (t : Rotation) (l : List ℤ) → workspace_made t l ≤ 1
unfolding workspace_made
turn_made_one t l = turn_made_le t.column (t.lower - t.upper) (rows_from t l)

-- no more are made than are taken
pub turns_made_le : (n k : ℕ) (l : List ℤ) → turns_made n k l ≤ k
unfolding turns_made
turns_made_le n zero l = omega arith
turns_made_le n (suc k) l = omega (arith, turns_made_le n k l, turn_made_one (rotation_at_of (n + k)) (words_after n k l))
