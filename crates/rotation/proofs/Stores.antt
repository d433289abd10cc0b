-- What the loops of the crate `rows` store and count comes to the rotation: word by word, and column by column. Assumes nothing.
use Prim.Native.Nat.{ℕ, zero, suc, ◌+◌, ◌-◌, ◌*◌, ◌/◌, ◌%◌, ◌≤◌, ◌<◌}
use native.Mathlib.Nat.{lt_irrefl, le_refl, add-zero, add-suc, add_assoc, div-add-mod'}
use native.Mathlib.Decide.{ℕ_discrete, dec_lt}
use native.Mathlib.Numerals.{add-one}
use native.Mathlib.Omega.{arith}
use mathlib.Core.Path.{◌≡◌, refl, sym, ap, ◌∙◌}
use mathlib.Core.Logic.{◌≢◌}
use mathlib.Core.List.{List}
use lib.IntN.{ℤ, pos}
use lib.ListN.{length, get_or, set, length-set}
use lib.Seq.{get_or-set_same, get_or-set_other, ext_get_or}
use borrow.Author.Tests.{le-ltb, eq-eqb, ne_eqb}
use mir.Val.{bool_byte}
use Rattle.integers.specs.Sum.{total}
use Rattle.integers.proofs.Sum.{total-zero}
use Rattle.cordic.specs.declared.Column.{Column}
use Rattle.rotation.specs.Column.{column_stored}
use Rattle.rotation.specs.Rotated.{rotated_word, rotated, saturations_at, saturations_of}
use Rattle.rotation.specs.Stores.{written, leading_written, rows_written, counted, rows_counted}
use Rattle.rotation.proofs.Places.{word-before, word-upper, word-lower, word-zero, word_other, rotated-length, rotated_position}
use Rattle.rotation.proofs.Column.{before-none}
use Rattle.rotation.proofs.Counts.{sides, byte_le}

-- ---- only the columns that are stored matter

written_same : (f g : ℕ → Column) (base c n : ℕ) (l : List ℤ) → ((k : ℕ) → c ≤ k → k < c + n → f k ≡ g k) → written f base c n l ≡ written g base c n l
unfolding written
written_same f g base c zero l same = refl
written_same f g base c (suc n) l same =
    rw (written_same f g base c n l (λ k p q. same k p (omega arith)), same (c + n) (omega arith) (omega arith))

counted_same : (f g : ℕ → Column) (c n : ℕ) → ((k : ℕ) → c ≤ k → k < c + n → f k ≡ g k) → counted f c n ≡ counted g c n
unfolding counted
counted_same f g c zero same = refl
counted_same f g c (suc n) same =
    rw (counted_same f g c n (λ k p q. same k p (omega arith)), same (c + n) (omega arith) (omega arith))

module _ (f g : ℕ → Column) (c : ℕ) (h : c < 32) (same : (k : ℕ) → c ≤ k → k < 32 → f k ≡ g k) where
  pub rows_same : (base : ℕ) (l : List ℤ) → rows_written f base c l ≡ rows_written g base c l
  unfolding rows_written
  rows_same base l =
      rw (
        same c (le_refl c) h,
        written_same f g base (c + 1) (31 - c) (leading_written (g c).upper base c l) (λ k p q. same k (omega arith) (omega arith)),
      )

  pub count_same : c < 16 → rows_counted f c ≡ rows_counted g c
  count_same left =
      rw (
        same c (le_refl c) h,
        counted_same f g (c + 1) (15 - c) (λ k p q. same k (omega arith) (omega arith)),
        counted_same f g 16 16 (λ k p q. same k (omega arith) q),
      )

-- n columns count 2 n words at most
pub counted_few : (f : ℕ → Column) (c n : ℕ) → counted f c n ≤ 2 * n
unfolding counted
counted_few f c zero = omega arith
counted_few f c (suc n) =
    omega (arith, counted_few f c n, byte_le (f (c + n)).upper.saturated, byte_le (f (c + n)).lower.saturated)

-- columns and then those behind them
written_more : (f : ℕ → Column) (base c m n : ℕ) (l : List ℤ) → written f base (c + m) n (written f base c m l) ≡ written f base c (m + n) l
unfolding written
written_more f base c m zero l = ap (λ (k : ℕ). written f base c k l) (sym (add-zero m))
written_more f base c m (suc n) l = rw (add-suc m n, written_more f base c m n l, add_assoc c m n)

-- the leading column and then the others
rows_of : (f : ℕ → Column) (base c : ℕ) (l lead rest : List ℤ) → lead ≡ leading_written (f c).upper base c l → rest ≡ written f base (c + 1) (31 - c) lead → rest ≡ rows_written f base c l
unfolding rows_written
rows_of f base c l lead rest d e = e ∙ ap (written f base (c + 1) (31 - c)) d

-- the leading column, the others before column s, and then those from it on
pub sides_of : (f : ℕ → Column) (base c s : ℕ) (l lead left right : List ℤ) → c < s → s ≤ 32 → lead ≡ leading_written (f c).upper base c l
    → left ≡ written f base (c + 1) (s - (c + 1)) lead → right ≡ written f base s (32 - s) left → right ≡ rows_written f base c l
sides_of f base c s l lead left right h k d e g =
    let q : c + 1 + (s - (c + 1)) ≡ s = omega arith in
    let all : s - (c + 1) + (32 - s) ≡ 31 - c = omega arith in
    rows_of f base c l lead right d
    (g ∙ ap (written f base s (32 - s)) e ∙ rw (q, all) at (written_more f base (c + 1) (s - (c + 1)) (32 - s) lead))

-- ---- the words, place by place

-- two stores, read at a third place, at the first and at the second
two_other : (l : List ℤ) (i j k : ℕ) (a b : ℤ) → k ≢ i → k ≢ j → get_or (set (set l i a) j b) k (pos 0) ≡ get_or l k (pos 0)
two_other l i j k a b p q = get_or-set_other (set l i a) j k b (pos 0) q ∙ get_or-set_other l i k a (pos 0) p

two-first : (l : List ℤ) (i j : ℕ) (a b : ℤ) → i ≢ j → i < length l → get_or (set (set l i a) j b) i (pos 0) ≡ a
two-first l i j a b p h = get_or-set_other (set l i a) j i b (pos 0) p ∙ get_or-set_same l i a (pos 0) h

two_second : (l : List ℤ) (i j : ℕ) (a b : ℤ) → j < length l → get_or (set (set l i a) j b) j (pos 0) ≡ b
two_second l i j a b h = get_or-set_same (set l i a) j b (pos 0) (simp length-set h)

module _ (f : ℕ → Column) (base c : ℕ) (l : List ℤ) (apart : 32 ≤ base) (room : base + 32 ≤ length l) where
  written-length : (n : ℕ) → length (written f base c n l) ≡ length l
  unfolding written
  written-length zero = refl
  written-length (suc n) = simp length-set (written-length n)

  -- a place that no column has is as it was
  written_other : (n j : ℕ) → ((k : ℕ) → c ≤ k → k < c + n → (j ≢ k) × (j ≢ base + k)) → get_or (written f base c n l) j (pos 0) ≡ get_or l j (pos 0)
  unfolding written
  written_other zero j away = refl
  written_other (suc n) j away =
      let d = away (c + n) (omega arith) (omega arith) in
      two_other (written f base c n l) (c + n) (base + (c + n)) j (f (c + n)).upper.value (f (c + n)).lower.value d.0 d.1
      ∙ written_other n j (λ k p q. away k p (omega arith))

  written-upper_at : (n k : ℕ) → c + suc n ≤ 32 → k < c + suc n → (k < c + n → get_or (written f base c n l) k (pos 0) ≡ (f k).upper.value) → Dec (k ≡ c + n) → get_or (written f base c (suc n) l) k (pos 0) ≡ (f k).upper.value
  unfolding written
  written-upper_at n k h q before (yes e) =
      rw e
      (two-first (written f base c n l) (c + n) (base + (c + n)) (f (c + n)).upper.value (f (c + n)).lower.value (omega arith) (omega (arith, written-length n)))
  written-upper_at n k h q before (no d) =
      two_other (written f base c n l) (c + n) (base + (c + n)) k (f (c + n)).upper.value (f (c + n)).lower.value d (omega arith)
      ∙ before (omega arith)

  -- the upper word of each column
  written-upper : (n k : ℕ) → c + n ≤ 32 → c ≤ k → k < c + n → get_or (written f base c n l) k (pos 0) ≡ (f k).upper.value
  written-upper zero k h p q = absurd (lt_irrefl k (omega arith))
  written-upper (suc n) k h p q = written-upper_at n k h q (written-upper n k (omega arith) p) (ℕ_discrete k (c + n))

  written-lower_at : (n k : ℕ) → c + suc n ≤ 32 → k < c + suc n → (k < c + n → get_or (written f base c n l) (base + k) (pos 0) ≡ (f k).lower.value) → Dec (k ≡ c + n) → get_or (written f base c (suc n) l) (base + k) (pos 0) ≡ (f k).lower.value
  unfolding written
  written-lower_at n k h q before (yes e) =
      rw e
      (two_second (written f base c n l) (c + n) (base + (c + n)) (f (c + n)).upper.value (f (c + n)).lower.value (omega (arith, written-length n)))
  written-lower_at n k h q before (no d) =
      two_other (written f base c n l) (c + n) (base + (c + n)) (base + k) (f (c + n)).upper.value (f (c + n)).lower.value (omega arith) (omega arith)
      ∙ before (omega arith)

  -- the lower word of each column
  written-lower : (n k : ℕ) → c + n ≤ 32 → c ≤ k → k < c + n → get_or (written f base c n l) (base + k) (pos 0) ≡ (f k).lower.value
  written-lower zero k h p q = absurd (lt_irrefl k (omega arith))
  written-lower (suc n) k h p q = written-lower_at n k h q (written-lower n k (omega arith) p) (ℕ_discrete k (c + n))

-- ---- the rotation

-- the words with the leading column stored
first : ℕ → ℕ → List ℤ → List ℤ
first c gap l = leading_written (column_stored c gap l c).upper (gap * 32) c l

-- the words as the loops store them
stores : ℕ → ℕ → List ℤ → List ℤ
stores c gap l = rows_written (column_stored c gap l) (gap * 32) c l

module _ (c gap : ℕ) (l : List ℤ) (column : c < 32) (below : 1 ≤ gap) (room : gap * 32 + 32 ≤ length l) where
  first-room : gap * 32 + 32 ≤ length (first c gap l)
  unfolding first leading_written
  first-room = simp length-set room

  stores_length : length (stores c gap l) ≡ length l
  unfolding stores rows_written first leading_written
  stores_length =
      written-length (column_stored c gap l) (gap * 32) (c + 1) (first c gap l) (omega arith) first-room (31 - c) ∙ simp length-set

  upper_at : (k : ℕ) → c ≤ k → k < 32 → Dec (k ≡ c) → get_or (stores c gap l) k (pos 0) ≡ (column_stored c gap l k).upper.value
  unfolding stores rows_written first leading_written
  upper_at k p q (yes e) =
      rw e
      (written_other (column_stored c gap l) (gap * 32) (c + 1) (first c gap l) (omega arith) first-room (31 - c) c (λ j a b. (omega arith, omega arith))
      ∙ two-first l c (gap * 32 + c) (column_stored c gap l c).upper.value (pos 0) (omega arith) (omega arith)
      )
  upper_at k p q (no d) =
      written-upper (column_stored c gap l) (gap * 32) (c + 1) (first c gap l) (omega arith) first-room (31 - c) k (omega arith) (omega arith) (omega arith)

  lower_at : (k : ℕ) → c ≤ k → k < 32 → Dec (k ≡ c) → get_or (stores c gap l) (gap * 32 + k) (pos 0) ≡ rotated_word c gap l gap k
  unfolding stores rows_written first leading_written
  lower_at k p q (yes e) =
      rw e
      (written_other (column_stored c gap l) (gap * 32) (c + 1) (first c gap l) (omega arith) first-room (31 - c) (gap * 32 + c) (λ j a b. (omega arith, omega arith))
      ∙ two_second l c (gap * 32 + c) (column_stored c gap l c).upper.value (pos 0) (omega arith)
      ∙ sym (word-zero c gap l below)
      )
  lower_at k p q (no d) =
      written-lower (column_stored c gap l) (gap * 32) (c + 1) (first c gap l) (omega arith) first-room (31 - c) k (omega arith) (omega arith) (omega arith)
      ∙ sym (word-lower c gap l below k (omega arith))

  -- any other word
  other_at : (j : ℕ) → ((k : ℕ) → c ≤ k → k < 32 → (j ≢ k) × (j ≢ gap * 32 + k)) → get_or (stores c gap l) j (pos 0) ≡ get_or l j (pos 0)
  unfolding stores rows_written first leading_written
  other_at j away =
      let d = away c (le_refl c) column in
      written_other (column_stored c gap l) (gap * 32) (c + 1) (first c gap l) (omega arith) first-room (31 - c) j (λ k a b. away k (omega arith) (omega arith))
      ∙ two_other l c (gap * 32 + c) j (column_stored c gap l c).upper.value (pos 0) d.0 d.1

  -- the word at row i, column j
  word_at : (i j : ℕ) → j < 32 → Dec (j < c) → Dec (i ≡ 0) → Dec (i ≡ gap) → get_or (stores c gap l) (i * 32 + j) (pos 0) ≡ rotated_word c gap l i j
  word_at i j q (yes h) p r =
      other_at (i * 32 + j) (λ k a b. (omega arith, omega arith)) ∙ sym (word-before c gap l i j h)
  word_at i j q (no h) (yes e) r =
      let place : 0 * 32 + j ≡ j = omega arith in
      rw (e, place) (upper_at j (omega arith) q (ℕ_discrete j c) ∙ sym (word-upper c gap l j (omega arith)))
  word_at i j q (no h) (no p) (yes e) = rw e (lower_at j (omega arith) q (ℕ_discrete j c))
  word_at i j q (no h) (no p) (no r) =
      other_at (i * 32 + j) (λ k a b. (omega arith, omega arith)) ∙ sym (word_other c gap l i j (omega arith) p r)

  place_at : (p : ℕ) → p < length l → get_or (stores c gap l) p (pos 0) ≡ get_or (rotated c gap l) p (pos 0)
  place_at p h =
      ap (λ (k : ℕ). get_or (stores c gap l) k (pos 0)) (sym (div-add-mod' p 32))
      ∙ word_at (p / 32) (p % 32) (omega arith) (dec_lt (p % 32) c) (ℕ_discrete (p / 32) 0) (ℕ_discrete (p / 32) gap)
      ∙ sym (rotated_position c gap l p h)

  -- the words are those of the rotation
  pub rows-rotated : rows_written (column_stored c gap l) (gap * 32) c l ≡ rotated c gap l
  unfolding stores
  rows-rotated =
      ext_get_or (pos 0) (stores c gap l) (rotated c gap l) (stores_length ∙ sym (rotated-length c gap l))
      (λ p h. place_at p (omega (arith, stores_length)))

-- ---- the counts
module _ (c gap : ℕ) (l : List ℤ) where
  -- with the leading column
  lead_total : total (c + 1) (saturations_at c gap l) ≡ bool_byte (column_stored c gap l c).upper.saturated
  unfolding total saturations_at
  lead_total = rw (add-one, total-zero c (saturations_at c gap l) (λ k h. before-none c gap l k h), le-ltb c c (le_refl c), eq-eqb c c refl) (omega arith)

  column_is : (k : ℕ) → c < k → saturations_at c gap l k ≡ bool_byte (column_stored c gap l k).upper.saturated + bool_byte (column_stored c gap l k).lower.saturated
  unfolding saturations_at
  column_is k h = rw (le-ltb k c (omega arith), ne_eqb k c (λ e. omega arith))

  -- with n columns more
  rest-total : (n : ℕ) → total (c + 1 + n) (saturations_at c gap l) ≡ bool_byte (column_stored c gap l c).upper.saturated + counted (column_stored c gap l) (c + 1) n
  unfolding total counted
  rest-total zero = simp add-zero lead_total
  rest-total (suc n) = rw (add-suc (c + 1) n) (omega (arith, rest-total n, column_is (c + 1 + n) (omega arith)))

  -- n columns of Q
  q-total : c < 16 → (n : ℕ) → total n (λ j. saturations_at c gap l (16 + j)) ≡ counted (column_stored c gap l) 16 n
  unfolding total counted
  q-total h zero = refl
  q-total h (suc n) = omega (arith, q-total h n, column_is (16 + n) (omega arith))

  -- the counts are those of the rotation
  pub count-rotated : c < 16 → rows_counted (column_stored c gap l) c ≡ saturations_of c gap l
  unfolding saturations_of
  count-rotated h =
      let all : c + 1 + (15 - c) ≡ 16 = omega arith in
      sides (sym (rw all at (rest-total (15 - c)))) (sym (q-total h 16))
