-- A turn depends on the words of its two rows from the leading column on, and leaves all others. Assumes nothing.
use Prim.Native.Nat.{ℕ, zero, suc, ◌+◌, ◌*◌, ◌/◌, ◌%◌, ◌≤◌, ◌<◌}
use native.Mathlib.Nat.{le_refl}
use native.Mathlib.Decide.{dec_lt}
use native.Mathlib.Omega.{arith}
use mathlib.Core.Path.{◌≡◌, refl, sym, ap, ap₂, ◌∙◌}
use mathlib.Core.Bool.{Bool, true, false, cond, ◌&&◌}
use mathlib.Core.List.{List, ◌∷◌}
use lib.IntN.{ℤ, pos}
use lib.ListN.{length, get_or, replicate}
use lib.Signed.{non_neg}
use borrow.Author.Tests.{le-ltb}
use Rattle.integers.specs.Matrix.{is_zero}
use Rattle.integers.proofs.Sum.{total_same}
use Rattle.cordic.specs.declared.Pair.{Pair}
use Rattle.cordic.specs.Word.{saturate}
use Rattle.cordic.proofs.ColumnRotation.{rotated_pair}
use Rattle.rotation.specs.Column.{column_stored}
use Rattle.rotation.specs.Rotated.{rotated_word, rotated, saturations_at, saturations_of}
use Rattle.rotation.specs.Saturations.{no_saturations}
use Rattle.rotation.specs.Turn.{is_clear_of, turned, turn_saturations, turn_made}
use Rattle.rotation.specs.Locality.{part_word, Agree, WordsRead, CountsRead, MadeRead, OtherRowsStay, ColumnsBeforeStay}
use Rattle.rotation.proofs.Places.{word-before, rotated_position}
use Rattle.rotation.proofs.Column.{column_before, stored_is, before-none, saturations_none}
use Rattle.rotation.proofs.Counts.{sides}
use Rattle.rotation.proofs.Turn.{turn_cases, turned-before, turned_other}

-- ---- reads

module _ (c gap : ℕ) (l m : List ℤ) (same : Agree c gap l m) where
  column_same : (j : ℕ) → c ≤ j → j < 32 → column_before gap l j ≡ column_before gap m j
  column_same j p q =
      let first : 0 * 32 + j ≡ j = omega arith in
      let e : get_or l j (pos 0) ≡ get_or m j (pos 0) = rw first at (same j p q).0 in
      λ i. record { u = e i; v = (same j p q).1 i }

  -- what is stored in a column from the leading one on
  pub stored_same : (j : ℕ) → c ≤ j → j < 32 → column_stored c gap l j ≡ column_stored c gap m j
  stored_same j p q =
      stored_is c gap l j
      ∙ ap₂ (λ (a b : Pair). record { upper = saturate (rotated_pair a b).u; lower = saturate (rotated_pair a b).v }) (column_same c (le_refl c) (omega arith)) (column_same j p q)
      ∙ sym (stored_is c gap m j)

  -- the word at row i, column j, where both parts had the same
  pub word_agrees : (i j : ℕ) → j < 32 → part_word l i j ≡ part_word m i j → rotated_word c gap l i j ≡ rotated_word c gap m i j
  unfolding rotated_word
  word_agrees i j q e = pick (dec_lt j c)
    where
      pick : Dec (j < c) → rotated_word c gap l i j ≡ rotated_word c gap m i j
      pick (yes h) = word-before c gap l i j h ∙ e ∙ sym (word-before c gap m i j h)
      pick (no h) = rw (le-ltb j c (omega arith), stored_same j (omega arith) q, e)

  -- what is counted in column j
  count_same_at : (j : ℕ) → j < 32 → saturations_at c gap l j ≡ saturations_at c gap m j
  unfolding saturations_at
  count_same_at j q = pick (dec_lt j c)
    where
      pick : Dec (j < c) → saturations_at c gap l j ≡ saturations_at c gap m j
      pick (yes h) = before-none c gap l j h ∙ sym (before-none c gap m j h)
      pick (no h) = rw (stored_same j (omega arith) q)

-- a turn is clear by the words of its leading column
module _ (c gap : ℕ) (l m : List ℤ) (column : c < 32) (same : Agree c gap l m) where
  clear_same : is_clear_of c gap l ≡ is_clear_of c gap m
  unfolding is_clear_of
  clear_same =
      ap (λ (p : Pair). is_zero p.v && non_neg p.u) (column_same c gap l m same c (le_refl c) column)

  -- a word of the part after the turn, where both parts had the same
  pub turned_agrees : (p : ℕ) → p < length l → p < length m → get_or l p (pos 0) ≡ get_or m p (pos 0) → get_or (turned c gap l) p (pos 0) ≡ get_or (turned c gap m) p (pos 0)
  unfolding turned
  turned_agrees p h k e = rw clear_same (pick (is_clear_of c gap m))
    where
      place : p / 32 * 32 + p % 32 ≡ p
      place = omega arith

      pick : (b : Bool) → get_or (cond b l (rotated c gap l)) p (pos 0) ≡ get_or (cond b m (rotated c gap m)) p (pos 0)
      pick true = e
      pick false =
          rotated_position c gap l p h
          ∙ word_agrees c gap l m same (p / 32) (p % 32) (omega arith) (rw place e)
          ∙ sym (rotated_position c gap m p k)

pub words-read : WordsRead
words-read c gap l m room space same j p q =
    (at 0 (omega arith) (omega arith) (same j p q).0, at gap (omega arith) (omega arith) (same j p q).1)
  where
    at : (i : ℕ) → i * 32 + j < length l → i * 32 + j < length m → part_word l i j ≡ part_word m i j → part_word (turned c gap l) i j ≡ part_word (turned c gap m) i j
    at i = turned_agrees c gap l m (omega arith) same (i * 32 + j)

-- what a rotation counts
rotation_counts : (c gap : ℕ) (l m : List ℤ) → Agree c gap l m → saturations_of c gap l ≡ saturations_of c gap m
unfolding saturations_of
rotation_counts c gap l m same =
    sides
    (total_same 16 (saturations_at c gap l) (saturations_at c gap m) (λ j h. count_same_at c gap l m same j (omega arith)))
    (total_same 16 (λ j. saturations_at c gap l (16 + j)) (λ j. saturations_at c gap m (16 + j)) (λ j h. count_same_at c gap l m same (16 + j) (omega arith)))

-- a turn with no column of the 32 counts nothing
none_past : (c gap : ℕ) (l : List ℤ) → 32 ≤ c → turn_saturations c gap l ≡ no_saturations
none_past c gap l h = turn_cases c gap l (λ words s n. s ≡ no_saturations) (λ e. refl) (λ e. saturations_none c gap l (λ k p q. absurd (omega arith)))

pub counts-read : CountsRead
unfolding turn_saturations
counts-read c gap l m same = pick (dec_lt c 32)
  where
    pick : Dec (c < 32) → turn_saturations c gap l ≡ turn_saturations c gap m
    pick (yes h) = rw (clear_same c gap l m h same, rotation_counts c gap l m same)
    pick (no h) = none_past c gap l (omega arith) ∙ sym (none_past c gap m (omega arith))

pub made_read : MadeRead
unfolding turn_made
made_read c gap l m h same = rw (clear_same c gap l m h same)

-- the premise can be met: two parts that differ in column 0, for a rotation with leading column 1
pub agree_possible : Agree 1 1 (pos 1 ∷ replicate 63 (pos 0)) (pos 2 ∷ replicate 63 (pos 0))
agree_possible zero p q = absurd (omega (arith, p))
agree_possible (suc k) p q =
    let upper : 0 * 32 + suc k ≡ suc k = omega arith in
    let lower : 1 * 32 + suc k ≡ suc (32 + k) = omega arith in
    rw (upper, lower) (refl, refl)

-- ---- writes

pub other_rows_stay : OtherRowsStay
other_rows_stay = turned_other

pub columns-before_stay : ColumnsBeforeStay
columns-before_stay = turned-before
