-- Turns of the workspace read no word behind the 512: two workspaces with the same first 512 words have them afterwards too, and count the same.
-- Assumes nothing.
use Prim.Native.Nat.{ℕ, zero, suc, ◌+◌, ◌-◌, ◌*◌, ◌≤◌, ◌<◌}
use native.Mathlib.Decide.{dec_lt}
use native.Mathlib.Omega.{arith}
use mathlib.Core.Path.{◌≡◌, refl, sym, ap, ap₂, ◌∙◌, subst}
use mathlib.Core.List.{List}
use lib.IntN.{ℤ, pos}
use lib.ListN.{length, get_or, take, length-drop, get_or-append}
use lib.Seq.{length-take-le, ext_get_or, get_or-take, get_or-drop}
use Rattle.rotation.specs.Turn.{turned}
use Rattle.rotation.specs.Saturations.{added}
use Rattle.rotation.specs.Locality.{Agree}
use Rattle.rotation.proofs.Locality.{turned_agrees, counts-read, made_read}
use Rattle.schedule.specs.declared.Rotation.{Rotation}
use Rattle.schedule.specs.Schedule.{rotation_at_of}
use Rattle.schedule.proofs.Clear.{rotation_shape}
use Rattle.workspace.specs.Workspace.{word_in, R, Q}
use Rattle.workspace.specs.Rotations.{rows_from, workspace_turned, workspace_saturations, workspace_made, words_after, saturations_counted, turns_made}
use Rattle.workspace.proofs.WordsAfter.{above_length, from_part, words-length}

-- ---- the same first 512 words, one by one
abbrev pub SameWords : List ℤ → List ℤ → Type 0
SameWords l m = (k : ℕ) → k < 512 → get_or l k (pos 0) ≡ get_or m k (pos 0)

module _ (l m : List ℤ) where
  pub same_words : take 512 l ≡ take 512 m → SameWords l m
  same_words e k h = sym (get_or-take 512 l k (pos 0) h) ∙ ap (λ (x : List ℤ). get_or x k (pos 0)) e ∙ get_or-take 512 m k (pos 0) h

  pub same_take : 512 ≤ length l → 512 ≤ length m → SameWords l m → take 512 l ≡ take 512 m
  same_take room space same =
      ext_get_or (pos 0) (take 512 l) (take 512 m) (length-take-le 512 l room ∙ sym (length-take-le 512 m space))
      (λ k h. let b : k < 512 = omega (arith, length-take-le 512 l room) in get_or-take 512 l k (pos 0) b ∙ same k b ∙ sym (get_or-take 512 m k (pos 0) b))

  module _ (same : SameWords l m) where
    pub r_same : (i j : ℕ) → i < 16 → j < 16 → R l i j ≡ R m i j
    unfolding R word_in
    r_same i j p q = same (i * 32 + j) (omega arith)

    pub q_same : (i j : ℕ) → i < 16 → j < 16 → Q l i j ≡ Q m i j
    unfolding Q word_in
    q_same i j p q = same (j * 32 + (16 + i)) (omega arith)

-- ---- one turn

module _ (t : Rotation) (ordered : t.column ≤ t.upper) (apart : t.upper < t.lower) (inside : t.lower < 16) where
  -- a word above the upper row
  above : (l : List ℤ) → 512 ≤ length l → (k : ℕ) → k < t.upper * 32 → get_or (workspace_turned t l) k (pos 0) ≡ get_or l k (pos 0)
  unfolding workspace_turned
  above l room k h =
      get_or-append (take (t.upper * 32) l) (turned t.column (t.lower - t.upper) (rows_from t l)) (pos 0) k (omega (arith, above_length t l ordered apart inside room))
      ∙ get_or-take (t.upper * 32) l k (pos 0) h

  module _ (l m : List ℤ) (room : 512 ≤ length l) (space : 512 ≤ length m) (same : SameWords l m) where
    part_same : (i : ℕ) → t.upper * 32 + i < 512 → get_or (rows_from t l) i (pos 0) ≡ get_or (rows_from t m) i (pos 0)
    part_same i h = get_or-drop (t.upper * 32) l i (pos 0) ∙ same (t.upper * 32 + i) h ∙ sym (get_or-drop (t.upper * 32) m i (pos 0))

    agree : Agree t.column (t.lower - t.upper) (rows_from t l) (rows_from t m)
    agree j p q = (part_same (0 * 32 + j) (omega arith), part_same ((t.lower - t.upper) * 32 + j) (omega arith))

    -- a word from the upper row on
    from_same : (i : ℕ) → t.upper * 32 + i < 512 → get_or (workspace_turned t l) (t.upper * 32 + i) (pos 0) ≡ get_or (workspace_turned t m) (t.upper * 32 + i) (pos 0)
    from_same i h =
        from_part t l ordered apart inside room i
        ∙ turned_agrees t.column (t.lower - t.upper) (rows_from t l) (rows_from t m) (omega arith) agree i (rw length-drop (omega arith)) (rw length-drop (omega arith)) (part_same i h)
        ∙ sym (from_part t m ordered apart inside space i)

    workspace_same : SameWords (workspace_turned t l) (workspace_turned t m)
    workspace_same k h = pick (dec_lt k (t.upper * 32))
      where
        pick : Dec (k < t.upper * 32) → get_or (workspace_turned t l) k (pos 0) ≡ get_or (workspace_turned t m) k (pos 0)
        pick (yes p) = above l room k p ∙ same k h ∙ sym (above m space k p)
        pick (no p) =
            let e : t.upper * 32 + (k - t.upper * 32) ≡ k = omega arith in
            subst (λ (n : ℕ). get_or (workspace_turned t l) n (pos 0) ≡ get_or (workspace_turned t m) n (pos 0)) e (from_same (k - t.upper * 32) (omega arith))

    workspace_saturations_same : workspace_saturations t l ≡ workspace_saturations t m
    unfolding workspace_saturations
    workspace_saturations_same = counts-read t.column (t.lower - t.upper) (rows_from t l) (rows_from t m) agree

    workspace_made_same : workspace_made t l ≡ workspace_made t m
    unfolding workspace_made
    workspace_made_same = made_read t.column (t.lower - t.upper) (rows_from t l) (rows_from t m) (omega arith) agree

-- ---- turns of the schedule

module _ (l m : List ℤ) (room : 512 ≤ length l) (space : 512 ≤ length m) (same : SameWords l m) where
  pub words_same : (n k : ℕ) → n + k ≤ 120 → SameWords (words_after n k l) (words_after n k m)
  unfolding words_after
  words_same n zero h = same
  words_same n (suc k) h =
      let s = rotation_shape (n + k) (omega arith) in
      workspace_same (rotation_at_of (n + k)) s.0 s.1 s.2 (words_after n k l) (words_after n k m)
      (omega (arith, words-length n k l (omega arith) room)) (omega (arith, words-length n k m (omega arith) space)) (words_same n k (omega arith))

  pub saturations_same : (n k : ℕ) → n + k ≤ 120 → saturations_counted n k l ≡ saturations_counted n k m
  unfolding saturations_counted
  saturations_same n zero h = refl
  saturations_same n (suc k) h =
      let s = rotation_shape (n + k) (omega arith) in
      ap₂ added (saturations_same n k (omega arith))
      (workspace_saturations_same (rotation_at_of (n + k)) s.0 s.1 s.2 (words_after n k l) (words_after n k m)
      (omega (arith, words-length n k l (omega arith) room)) (omega (arith, words-length n k m (omega arith) space)) (words_same n k (omega arith)))

  pub turns_made_same : (n k : ℕ) → n + k ≤ 120 → turns_made n k l ≡ turns_made n k m
  unfolding turns_made
  turns_made_same n zero h = refl
  turns_made_same n (suc k) h =
      let s = rotation_shape (n + k) (omega arith) in
      ap₂ ◌+◌ (turns_made_same n k (omega arith))
      (workspace_made_same (rotation_at_of (n + k)) s.0 s.1 s.2 (words_after n k l) (words_after n k m)
      (omega (arith, words-length n k l (omega arith) room)) (omega (arith, words-length n k m (omega arith) space)) (words_same n k (omega arith)))

  pub words_take : (n k : ℕ) → n + k ≤ 120 → take 512 (words_after n k l) ≡ take 512 (words_after n k m)
  words_take n k h =
      same_take (words_after n k l) (words_after n k m) (omega (arith, words-length n k l h room)) (omega (arith, words-length n k m h space)) (words_same n k h)
