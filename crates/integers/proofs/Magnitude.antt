-- Ranges of signed numbers, by `mag`: `mag z` is n both for n and for -(n + 1), so `mag z < 2 ^ 63` says that z fits an `i64`.
-- Assumes nothing.
use Prim.Native.Nat.{ℕ, zero, suc, ◌+◌, ◌-◌, ◌*◌, ◌/◌, ◌^◌, ◌≤◌, ◌<◌}
use native.Mathlib.Nat.{le-suc, mul-le-mul_right}
use native.Mathlib.Omega.{arith}
use mathlib.Core.Path.{◌≡◌, refl, sym, ◌∙◌}
use mathlib.Core.Bool.{Bool, true, false, cond}
use borrow.Author.Tests.{ne_eqb}
use lib.Dec.{ltb, eqb, leb-zero}
use lib.IntN.{ℤ, pos, negsuc, nat_abs, neg_ℤ, sub_ℕ, ◌+ℤ◌, ◌-ℤ◌, ◌*ℤ◌}
use lib.Signed.{mag, shr_z, le_z, non_neg}
use mir.Syntax.{Width, w32}
use mir.Val.{to_z, of_z, hbits}
use mir.Facts.{to_z-of_z}

mag-cond : (t : Bool) (x y : ℕ) {n : ℕ} → x ≤ n → y ≤ n → mag (cond t (negsuc x) (pos y)) ≤ n
mag-cond true x y p q = p
mag-cond false x y p q = q

mag-subℕ : (a b : ℕ) {n : ℕ} → a ≤ n → b ≤ n → mag (sub_ℕ a b) ≤ n
mag-subℕ a b p q = mag-cond (ltb a b) _ _ (omega arith) (omega arith)

pub mag-add : (a b : ℤ) → mag (a +ℤ b) ≤ mag a + mag b + 1
mag-add (pos a) (pos b) = omega arith
mag-add (pos a) (negsuc b) = mag-subℕ a (suc b) (omega arith) (omega arith)
mag-add (negsuc a) (pos b) = mag-subℕ b (suc a) (omega arith) (omega arith)
mag-add (negsuc a) (negsuc b) = omega arith

pub mag-neg : (a : ℤ) → mag (neg_ℤ a) ≤ mag a + 1
mag-neg (pos zero) = omega arith
mag-neg (pos (suc a)) = omega arith
mag-neg (negsuc a) = omega arith

pub mag-sub : (a b : ℤ) → mag (a -ℤ b) ≤ mag a + mag b + 1
mag-sub (pos a) (pos zero) = omega arith
mag-sub (pos a) (pos (suc b)) = mag-subℕ a (suc b) (omega arith) (omega arith)
mag-sub (pos a) (negsuc b) = omega arith
mag-sub (negsuc a) (pos zero) = mag-subℕ 0 (suc a) (omega arith) (omega arith)
mag-sub (negsuc a) (pos (suc b)) = omega arith
mag-sub (negsuc a) (negsuc b) = mag-subℕ (suc b) (suc a) (omega arith) (omega arith)

-- a shift divides the bound
pub mag_shr_is : (z : ℤ) (m : ℕ) → mag (shr_z z m) ≡ mag z / m
mag_shr_is (pos a) m = refl
mag_shr_is (negsuc a) m = refl

pub mag-mul : (a : ℤ) (k : ℕ) → mag (a *ℤ pos k) ≤ suc (mag a) * k
mag-mul (pos a) k = mul-le-mul_right k (le-suc a)
mag-mul (negsuc a) k = go (suc a * k)
  where
    go : (n : ℕ) → mag (neg_ℤ (pos n)) ≤ n
    go zero = omega arith
    go (suc n) = omega arith

-- a number that fits a width is read back from its bits
pub read_back : (w : Width) {z : ℤ} → mag z < 2 ^ hbits w → to_z w (of_z w z) ≡ z
read_back w h = to_z-of_z {w = w} (record { sfits = h })

-- the machine's test for 0 or more
pub nonneg_test : (z : ℤ) → le_z (pos 0) z ≡ non_neg z
nonneg_test (pos n) = leb-zero n
nonneg_test (negsuc n) = refl

-- and its test for 0, which goes by the bits
pub zero_bits : (z : ℤ) → mag z < 2147483648 → eqb (of_z w32 z) 0 ≡ eqb (nat_abs z) 0
zero_bits (pos n) h = refl
zero_bits (negsuc m) h = ne_eqb (4294967296 - suc m) 0 (λ e. omega arith) ∙ sym (ne_eqb (suc m) 0 (λ e. omega arith))
