-- The words of the part after a rotation, place by place. Assumes nothing.
use Prim.Native.Nat.{ℕ, ◌+◌, ◌*◌, ◌/◌, ◌%◌, ◌≤◌, ◌<◌}
use native.Mathlib.Nat.{le_refl, le_of_lt}
use native.Mathlib.Decide.{dec_lt}
use native.Mathlib.Omega.{arith}
use mathlib.Core.Path.{◌≡◌, refl, sym, ap₂, ◌∙◌}
use mathlib.Core.Logic.{◌≢◌}
use mathlib.Core.List.{List}
use lib.IntN.{ℤ, pos}
use lib.ListN.{length, get_or, get_or-eq_default}
use borrow.Author.Tests.{lt-ltb, le-ltb, eq-eqb, ne_eqb}
use Rattle.lists.proofs.Tabulate.{length-tabulate, get_d_tabulate}
use Rattle.rotation.specs.Column.{column_stored}
use Rattle.rotation.specs.Rotated.{rotated_word, rotated}

-- ---- the word at row i, column j, case by case
module _ (c gap : ℕ) (l : List ℤ) where
  -- a column before the leading one stays
  pub word-before : (i j : ℕ) → j < c → rotated_word c gap l i j ≡ get_or l (i * 32 + j) (pos 0)
  unfolding rotated_word
  word-before i j h = rw (lt-ltb j c h)

  -- the upper row
  pub word-upper : (j : ℕ) → c ≤ j → rotated_word c gap l 0 j ≡ (column_stored c gap l j).upper.value
  unfolding rotated_word
  word-upper j h = rw (le-ltb j c h)

  -- the lower row, after the leading column and in it
  pub word-lower : 1 ≤ gap → (j : ℕ) → c < j → rotated_word c gap l gap j ≡ (column_stored c gap l j).lower.value
  unfolding rotated_word
  word-lower below j h = rw (le-ltb j c (le_of_lt h), ne_eqb gap 0 (λ e. omega arith), eq-eqb gap gap refl, ne_eqb j c (λ e. omega arith))

  pub word-zero : 1 ≤ gap → rotated_word c gap l gap c ≡ pos 0
  unfolding rotated_word
  word-zero below = rw (le-ltb c c (le_refl c), ne_eqb gap 0 (λ e. omega arith), eq-eqb gap gap refl, eq-eqb c c refl)

  -- any other row stays
  pub word_other : (i j : ℕ) → c ≤ j → i ≢ 0 → i ≢ gap → rotated_word c gap l i j ≡ get_or l (i * 32 + j) (pos 0)
  unfolding rotated_word
  word_other i j h p q = rw (le-ltb j c h, ne_eqb i 0 p, ne_eqb i gap q)

-- ---- the words of the part
pub rotated-length : (c gap : ℕ) (l : List ℤ) → length (rotated c gap l) ≡ length l
unfolding rotated
rotated-length c gap l = length-tabulate (length l) (λ p. rotated_word c gap l (p / 32) (p % 32))

-- a position of the part, by its row and column
pub rotated_position : (c gap : ℕ) (l : List ℤ) (p : ℕ) → p < length l → get_or (rotated c gap l) p (pos 0) ≡ rotated_word c gap l (p / 32) (p % 32)
unfolding rotated
rotated_position c gap l p h = get_d_tabulate (length l) (λ p. rotated_word c gap l (p / 32) (p % 32)) (pos 0) p h

pub rotated_at_lem : (c gap : ℕ) (l : List ℤ) (i j : ℕ) → j < 32 → i * 32 + j < length l → get_or (rotated c gap l) (i * 32 + j) (pos 0) ≡ rotated_word c gap l i j
rotated_at_lem c gap l i j q h =
    let row : (i * 32 + j) / 32 ≡ i = omega arith in
    let column : (i * 32 + j) % 32 ≡ j = omega arith in
    rotated_position c gap l (i * 32 + j) h ∙ ap₂ (rotated_word c gap l) row column

-- past the part there is nothing
pub rotated_past : (c gap : ℕ) (l : List ℤ) (p : ℕ) → length l ≤ p → get_or (rotated c gap l) p (pos 0) ≡ get_or l p (pos 0)
rotated_past c gap l p h =
    get_or-eq_default (rotated c gap l) (pos 0) (omega (arith, rotated-length c gap l)) ∙ sym (get_or-eq_default l (pos 0) h)

-- a word that stays, wherever it stands
stays : (c gap : ℕ) (l : List ℤ) (i j : ℕ) → j < 32 → rotated_word c gap l i j ≡ get_or l (i * 32 + j) (pos 0) → get_or (rotated c gap l) (i * 32 + j) (pos 0) ≡ get_or l (i * 32 + j) (pos 0)
stays c gap l i j q e = pick (dec_lt (i * 32 + j) (length l))
  where
    pick : Dec (i * 32 + j < length l) → get_or (rotated c gap l) (i * 32 + j) (pos 0) ≡ get_or l (i * 32 + j) (pos 0)
    pick (yes h) = rotated_at_lem c gap l i j q h ∙ e
    pick (no h) = rotated_past c gap l (i * 32 + j) (omega arith)

-- a column before the leading one
pub rotated-before : (c gap : ℕ) (l : List ℤ) (i j : ℕ) → j < 32 → j < c → get_or (rotated c gap l) (i * 32 + j) (pos 0) ≡ get_or l (i * 32 + j) (pos 0)
rotated-before c gap l i j q h = stays c gap l i j q (word-before c gap l i j h)

-- a row that is neither of the two
pub rotated_other : (c gap : ℕ) (l : List ℤ) (i j : ℕ) → j < 32 → i ≢ 0 → i ≢ gap → get_or (rotated c gap l) (i * 32 + j) (pos 0) ≡ get_or l (i * 32 + j) (pos 0)
rotated_other c gap l i j q p r = stays c gap l i j q (pick (dec_lt j c))
  where
    pick : Dec (j < c) → rotated_word c gap l i j ≡ get_or l (i * 32 + j) (pos 0)
    pick (yes h) = word-before c gap l i j h
    pick (no h) = word_other c gap l i j (omega arith) p r

-- ---- the two rows
module _ (c gap : ℕ) (l : List ℤ) (room : gap * 32 + 32 ≤ length l) where
  -- the upper word of a column from the leading one on
  pub rotated-upper : (k : ℕ) → c ≤ k → k < 32 → get_or (rotated c gap l) k (pos 0) ≡ (column_stored c gap l k).upper.value
  rotated-upper k p q =
      let first : 0 * 32 + k ≡ k = omega arith in
      rw first at (rotated_at_lem c gap l 0 k q (omega arith) ∙ word-upper c gap l k p)

  module _ (below : 1 ≤ gap) where
    -- the lower word of a column after the leading one
    pub rotated-lower : (k : ℕ) → c < k → k < 32 → get_or (rotated c gap l) (gap * 32 + k) (pos 0) ≡ (column_stored c gap l k).lower.value
    rotated-lower k p q = rotated_at_lem c gap l gap k q (omega arith) ∙ word-lower c gap l below k p

    -- the lower leading word
    pub rotated-zero : c < 32 → get_or (rotated c gap l) (gap * 32 + c) (pos 0) ≡ pos 0
    rotated-zero q = rotated_at_lem c gap l gap c q (omega arith) ∙ word-zero c gap l below
