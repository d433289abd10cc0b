-- The record of any list of snapshots is Hermitian. The sums are, since a product changes to its conjugate when its samples change places; division toward
-- zero is odd, and the clamp, which is not, never meets an imaginary part: such a sum falls short of 2^31 times the count. Assumes nothing.
use mathlib.Core.Path.{◌≡◌, refl, sym, ap, ap₂, subst, ◌∙◌}
use mathlib.Core.Bool.{Bool, true, false, cond}
use mathlib.Core.List.{List, [], ◌∷◌}
use Prim.Native.Nat.{ℕ, zero, suc, ◌+◌, ◌*◌, ◌-◌, ◌/◌, ◌^◌, ◌≤◌, ◌<◌}
use native.Mathlib.Nat.{le_trans, le_of_suc-le-suc, mul-le-mul, zero-div, div-lt_iff_lt-mul}
use native.Mathlib.Omega.{arith}
use borrow.Author.Tests.{le-ltb}
use lib.Dec.{ltb, le→leb}
use lib.IntN.{ℤ, pos, negsuc, neg_ℤ, nat_abs, ◌+ℤ◌, ◌-ℤ◌, ◌*ℤ◌, neg_ℤ-neg_ℤ}
use lib.Signed.{◌≤ℤ◌, le_z_yes, lt_z}
use mir.Syntax.{w16}
use mir.Val.{SFits}
use Rattle.integers.specs.Square.{square}
use Rattle.integers.specs.Sum.{sum}
use Rattle.integers.specs.Within.{Within}
use Rattle.integers.proofs.Laws.{abs_neg, square_is}
use Rattle.integers.proofs.Ring.{◌⊕◌, ◌⊝◌, ◌⊗◌, neg, con, ◌≐◌, ring}
use Rattle.integers.proofs.Sum.{sum_equal, sum-zero, sum-neg, sum-abs, sum-total}
use Rattle.integers.proofs.Within.{within, within--, within_difference}
use Rattle.matrix_record.specs.MatrixRecord.{part_of}
use Rattle.covariance.specs.declared.Sample.{Sample}
use Rattle.covariance.specs.Sums.{product_part}
use Rattle.covariance.specs.WriteMatrix.{normalized, write_of}
use Rattle.covariance.proofs.Machine.{short_product}
use Rattle.covariance_laws.specs.Snapshots.{sample_at, Parts16, term_at, sums_after}
use Rattle.covariance_laws.specs.Accumulated.{added_of}
use Rattle.covariance_laws.specs.WrittenMatrix.{record_written}
use Rattle.covariance_laws.specs.Hermitian.{AllHermitian}
use Rattle.covariance_laws.specs.HeardByPower.{power_of}
use Rattle.covariance_laws.proofs.Accumulated.{accumulated}
use Rattle.covariance_laws.proofs.Terms.{Sample16}
use Rattle.covariance_laws.proofs.WrittenMatrix.{written-matrix}

-- ---- one product

-- the samples change places: the real part stays, the imaginary part changes its sign
real_swap : (a b : Sample) → product_part b a 0 ≡ product_part a b 0
unfolding product_part
real_swap a b = ring (a.re ∷ a.im ∷ b.re ∷ b.im ∷ []) (λ x y u v. u ⊗ x ⊕ v ⊗ y ≐ x ⊗ u ⊕ y ⊗ v) tt

imaginary_swap : (a b : Sample) → product_part b a 1 ≡ neg_ℤ (product_part a b 1)
unfolding product_part
imaginary_swap a b = ring (a.re ∷ a.im ∷ b.re ∷ b.im ∷ []) (λ x y u v. v ⊗ x ⊝ u ⊗ y ≐ neg (y ⊗ u ⊝ x ⊗ v)) tt

-- a sample with itself
imaginary_own : (a : Sample) → product_part a a 1 ≡ pos 0
unfolding product_part
imaginary_own a = ring (a.re ∷ a.im ∷ []) (λ x y. y ⊗ x ⊝ x ⊗ y ≐ con (pos 0)) tt

real_own : (a : Sample) → product_part a a 0 ≡ pos (square a.re + square a.im)
unfolding product_part
real_own a = ap₂ (λ x y. x +ℤ y) (square_is a.re) (square_is a.im)

-- ---- the range of an imaginary part

-- a product of two numbers of 16 bits is at least 2^15 - 2^30, and only that of two negative ones may be larger than 2^30 - 2^15
data Product (p : ℤ) : Type 0 where
  positive : (n : ℕ) → p ≡ pos n → n ≤ 2 ^ 30 → Product p
  small : Within p (2 ^ 30 - 2 ^ 15) → Product p

product : (x y : ℤ) → SFits w16 x → SFits w16 y → Product (x *ℤ y)
product (pos a) (pos b) f g = small (within (le_trans (mul-le-mul {n₁ = a} {m₁ = b} {n₂ = 32767} {m₂ = 32767} (omega (arith, f.sfits)) (omega (arith, g.sfits))) (omega arith)))
product (pos a) (negsuc b) f g = small (within (rw (abs_neg (pos (a * suc b))) (le_trans (mul-le-mul {n₁ = a} {m₁ = suc b} {n₂ = 32767} {m₂ = 32768} (omega (arith, f.sfits)) (omega (arith, g.sfits))) (omega arith))))
product (negsuc a) (pos b) f g = small (within (rw (abs_neg (pos (suc a * b))) (le_trans (mul-le-mul {n₁ = suc a} {m₁ = b} {n₂ = 32768} {m₂ = 32767} (omega (arith, f.sfits)) (omega (arith, g.sfits))) (omega arith))))
product (negsuc a) (negsuc b) f g = positive (suc a * suc b) refl (le_trans (mul-le-mul {n₁ = suc a} {m₁ = suc b} {n₂ = 32768} {m₂ = 32768} (omega (arith, f.sfits)) (omega (arith, g.sfits))) (omega arith))

difference : (p q : ℤ) → Within p (2 ^ 30) → Within q (2 ^ 30) → Product p → Product q → nat_abs (p -ℤ q) ≤ 2 ^ 31 - 2 ^ 15
difference p q hp hq (positive m e h) (positive n f k) = rw (e, f) (within_difference m n {k = 2 ^ 31 - 2 ^ 15} (omega arith) (omega arith)).abs
difference p q hp hq (positive m e h) (small k) = le_trans (within-- hp k).abs (omega arith)
difference p q hp hq (small h) r = le_trans (within-- h hq).abs (omega arith)

imaginary_near : (a b : Sample) → Sample16 a → Sample16 b → nat_abs (product_part a b 1) ≤ 2 ^ 31 - 2 ^ 15
unfolding product_part
imaginary_near a b f g = difference _ _ (short_product f.1 g.0) (short_product f.0 g.1) (product a.im b.re f.1 g.0) (product a.re b.im f.0 g.1)

-- ---- quotients

-- the clamp leaves a number that is at most 32,767, and its negative
kept : (n : ℕ) → n ≤ 32767 → cond (lt_z (pos 32767) (pos n)) (pos 32767) (pos n) ≡ pos n
kept n h = rw (le-ltb 32767 n h)

kept_negative : (n : ℕ) → cond (lt_z (pos 32767) (neg_ℤ (pos n))) (pos 32767) (neg_ℤ (pos n)) ≡ neg_ℤ (pos n)
kept_negative zero = refl
kept_negative (suc n) = refl

quotient_small : (count a : ℕ) → suc a ≤ count * (2 ^ 31 - 2 ^ 15) → suc a / (65536 * count) ≤ 32767
quotient_small count a h = le_of_suc-le-suc ((div-lt_iff_lt-mul {x = suc a} {y = 32768} (some count h)).1 (omega arith))
  where
    some : (n : ℕ) → suc a ≤ n * (2 ^ 31 - 2 ^ 15) → 0 < 65536 * n
    some n k = omega arith

-- a quotient of at most 32,767 goes with the sign of its sum
normalized-neg : (count : ℕ) (z : ℤ) → nat_abs z ≤ count * (2 ^ 31 - 2 ^ 15) → normalized count (neg_ℤ z) ≡ neg_ℤ (normalized count z)
unfolding normalized
normalized-neg count (pos zero) h = rw (zero-div (65536 * count))
normalized-neg count (pos (suc a)) h = kept_negative (suc a / (65536 * count)) ∙ sym (ap neg_ℤ (kept (suc a / (65536 * count)) (quotient_small count a h)))
normalized-neg count (negsuc a) h =
    let m : ℕ = suc a / (65536 * count) in
    kept m (quotient_small count a h) ∙ sym (ap neg_ℤ (kept_negative m) ∙ neg_ℤ-neg_ℤ (pos m))

normalized-zero : (count : ℕ) → normalized count (pos 0) ≡ pos 0
unfolding normalized
normalized-zero count = rw (zero-div (65536 * count))

normalized_positive : (count n : ℕ) → pos 0 ≤ℤ normalized count (pos n)
unfolding normalized
normalized_positive count n = go (ltb 32767 (n / (65536 * count)))
  where
    go : (b : Bool) → pos 0 ≤ℤ cond b (pos 32767) (pos (n / (65536 * count)))
    go true = le_z_yes tt
    go false = le_z_yes (le→leb 0 (n / (65536 * count)) (omega arith))

-- ---- the record

module _ (l : List (List Sample)) (buffer : List ℕ) (short : Parts16 l) (accepted : (write_of (sums_after l) buffer).number ≡ 0) where
  -- the sum over the snapshots that are added up
  abbrev summed : ℕ → ℕ → ℕ → ℤ
  summed i j q = sum (added_of l) (term_at l i j q)

  element : (i j q : ℕ) → i < 8 → j < 8 → q < 2 → part_of (record_written (sums_after l) buffer) (8 * i + j) q ≡ normalized (added_of l) (summed i j q)
  element i j q hi hj hq =
      (written-matrix (sums_after l) buffer accepted).parts i j q hi hj hq
      ∙ ap₂ normalized (accumulated l short).count ((accumulated l short).sums i j q hi hj hq)

  real-sums : (i j : ℕ) → summed j i 0 ≡ summed i j 0
  real-sums i j = sum_equal (added_of l) (λ k h. real_swap (sample_at l k i) (sample_at l k j))

  imaginary-sums : (i j : ℕ) → summed j i 1 ≡ neg_ℤ (summed i j 1)
  imaginary-sums i j = sum_equal (added_of l) (λ k h. imaginary_swap (sample_at l k i) (sample_at l k j)) ∙ sum-neg (added_of l) (term_at l i j 1)

  imaginary-sum_near : (i j : ℕ) → nat_abs (summed i j 1) ≤ added_of l * (2 ^ 31 - 2 ^ 15)
  imaginary-sum_near i j = sum-abs (added_of l) (2 ^ 31 - 2 ^ 15) (term_at l i j 1) (λ k h. imaginary_near (sample_at l k i) (sample_at l k j) (short k i) (short k j))

  own_sum : (i : ℕ) → summed i i 0 ≡ pos (power_of l i)
  own_sum i = sum_equal (added_of l) (λ k h. real_own (sample_at l k i)) ∙ sum-total (added_of l) (λ k. square (sample_at l k i).re + square (sample_at l k i).im)

  pub own_element : (i : ℕ) → i < 8 → part_of (record_written (sums_after l) buffer) (8 * i + i) 0 ≡ normalized (added_of l) (pos (power_of l i))
  own_element i h = element i i 0 h h (omega arith) ∙ ap (normalized (added_of l)) (own_sum i)

pub hermitian : AllHermitian
hermitian l buffer short accepted =
    let part = element l buffer short accepted in
    let n : ℕ = added_of l in
    let lt0 : 0 < 2 = omega arith in
    let lt1 : 1 < 2 = omega arith in
    record {
      elements = part;
      real = λ i j hi hj. part j i 0 hj hi lt0 ∙ ap (normalized n) (real-sums l buffer short accepted i j) ∙ sym (part i j 0 hi hj lt0);
      imaginary = λ i j hi hj.
          part j i 1 hj hi lt1
          ∙ ap (normalized n) (imaginary-sums l buffer short accepted i j)
          ∙ normalized-neg n (sum n (term_at l i j 1)) (imaginary-sum_near l buffer short accepted i j)
          ∙ ap neg_ℤ (sym (part i j 1 hi hj lt1));
      diagonal-imaginary = λ i h.
          part i i 1 h h lt1 ∙ ap (normalized n) (sum-zero n (λ k b. imaginary_own (sample_at l k i))) ∙ normalized-zero n;
      diagonal-real = λ i h.
          subst (λ (z : ℤ). pos 0 ≤ℤ z) (sym (own_element l buffer short accepted i h)) (normalized_positive n (power_of l i));
    }
