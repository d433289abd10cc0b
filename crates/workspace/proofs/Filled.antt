-- A workspace that was filled by row and column: what loading puts there, and what reading does. Assumes nothing.
use mathlib.Core.Path.{◌≡◌, sym, ap, ap₂, ◌∙◌}
use mathlib.Core.Bool.{cond}
use mathlib.Core.List.{List, ◌++◌}
use Prim.Native.Nat.{ℕ, ◌+◌, ◌*◌, ◌-◌, ◌/◌, ◌%◌, ◌≤◌, ◌<◌}
use native.Mathlib.Decide.{dec_lt}
use native.Mathlib.Nat.{div-add-mod'}
use native.Mathlib.Omega.{arith}
use borrow.Author.Tests.{lt-ltb, le-ltb}
use lib.Dec.{ltb}
use lib.IntN.{ℤ, pos}
use lib.ListN.{length, get_or, take, drop}
use lib.Seq.{length-take-le, get_or-take}
use mir.Syntax.{w32}
use mir.Val.{SFits}
use Rattle.integers.specs.Matrix.{Matrix}
use Rattle.lists.specs.Lists.{filled}
use Rattle.lists.proofs.Tabulate.{get_or-filled, tabulate_is}
use Rattle.result_record.specs.ResultRecord.{result_record_of, record_r, record_q}
use Rattle.result_record.proofs.ResultRecord.{r_back, q_back, record-back, record_same}
use Rattle.workspace.specs.Workspace.{word_in, R, Q}
use Rattle.workspace.specs.Loading.{loaded_at, loaded_words}
use Rattle.workspace.specs.Reading.{read_at, read_word_of, read_words}

-- ---- by row and column

pub filled_at : (f : Matrix) (l : List ℤ) (i j : ℕ) → i < 16 → j < 32 → word_in (filled 512 (λ (k : ℕ). f (k / 32) (k % 32)) l) i j ≡ f i j
unfolding word_in
filled_at f l i j hi hj =
    let r : (i * 32 + j) / 32 ≡ i = omega arith in
    let c : (i * 32 + j) % 32 ≡ j = omega arith in
    get_or-filled 512 (λ (k : ℕ). f (k / 32) (k % 32)) l (pos 0) (i * 32 + j) (omega arith) ∙ ap₂ f r c

pub loaded_at_lem : (rec : List ℕ) (l : List ℤ) (i j : ℕ) → i < 16 → j < 32 → word_in (loaded_words rec l) i j ≡ loaded_at rec i j
loaded_at_lem rec l i j hi hj = filled_at (loaded_at rec) l i j hi hj

-- ---- R and Q of a workspace that a record was read into

module _ (rec : List ℕ) (l : List ℤ) where
  pub read-r : (i j : ℕ) → i < 16 → j < 16 → R (read_words rec l) i j ≡ record_r rec i j
  unfolding R read_at
  read-r i j hi hj = filled_at (read_at rec) l i j hi (omega arith) ∙ rw (lt-ltb j 16 hj)

  pub read-q : (i j : ℕ) → i < 16 → j < 16 → Q (read_words rec l) i j ≡ record_q rec i j
  unfolding Q read_at
  read-q i j hi hj =
      let e : 16 + i - 16 ≡ i = omega arith in
      filled_at (read_at rec) l j (16 + i) hj (omega arith) ∙ rw (le-ltb (16 + i) 16 (omega arith), e)

-- what was read is written again
pub read-written : (rec : List ℕ) (l : List ℤ) → ((k : ℕ) → get_or rec k 0 < 256) → get_or rec 0 0 ≡ 2 → length rec ≡ 2049 → result_record_of (R (read_words rec l)) (Q (read_words rec l)) ≡ rec
read-written rec l bytes tag size = record_same (R (read_words rec l)) (Q (read_words rec l)) (record_r rec) (record_q rec) (read-r rec l) (read-q rec l) ∙ record-back rec bytes tag size

-- ---- what was written is read again

module _ (w : List ℤ) (fits : (k : ℕ) → SFits w32 (get_or w k (pos 0))) where
  pub written_r : (i j : ℕ) → i < 16 → j < 16 → record_r (result_record_of (R w) (Q w)) i j ≡ R w i j
  unfolding R word_in
  written_r i j hi hj = r_back (R w) (Q w) i j hi hj (fits (i * 32 + j))

  written-q : (i j : ℕ) → i < 16 → j < 16 → record_q (result_record_of (R w) (Q w)) i j ≡ Q w i j
  unfolding Q word_in
  written-q i j hi hj = q_back (R w) (Q w) i j hi hj (fits (j * 32 + (16 + i)))

  -- each word at its place
  written_at : (i j : ℕ) → i < 16 → j < 32 → read_at (result_record_of (R w) (Q w)) i j ≡ word_in w i j
  unfolding read_at R Q
  written_at i j hi hj = pick (dec_lt j 16)
    where
      pick : Dec (j < 16) → cond (ltb j 16) (record_r (result_record_of (R w) (Q w)) i j) (record_q (result_record_of (R w) (Q w)) (j - 16) i) ≡ word_in w i j
      pick (yes h) = rw (lt-ltb j 16 h) (written_r i j hi h)
      pick (no h) = let e : 16 + (j - 16) ≡ j = omega arith in rw (le-ltb j 16 (omega arith)) (written-q (j - 16) i (omega arith) hi ∙ ap (word_in w i) e)

  pub written_read : (other : List ℤ) → 512 ≤ length w → read_words (result_record_of (R w) (Q w)) other ≡ take 512 w ++ drop 512 other
  unfolding filled word_in
  written_read other room =
      ap (λ (x : List ℤ). x ++ drop 512 other)
      (tabulate_is 512 (read_word_of (result_record_of (R w) (Q w))) (take 512 w) (pos 0) (length-take-le 512 w room)
      (λ k h. written_at (k / 32) (k % 32) (omega arith) (omega arith) ∙ ap (λ (n : ℕ). get_or w n (pos 0)) (div-add-mod' k 32) ∙ sym (get_or-take 512 w k (pos 0) h)))
