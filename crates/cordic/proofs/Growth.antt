-- Laws of the micro-rotations of any 32-bit words: how far the words grow, and the signs. Assumes nothing.
use Prim.Native.Nat.{ℕ, zero, suc, ◌+◌, ◌-◌, ◌/◌, ◌^◌, ◌≤◌, ◌<◌}
use native.Mathlib.Nat.{le_refl, suc-add, zero-add}
use native.Mathlib.Omega.{arith}
use mathlib.Core.Path.{◌≡◌, refl, ap}
use mathlib.Core.Bool.{Bool, true, false}
use lib.Signed.{shr_z, non_neg}
use lib.Pow.{shr_mono}
use Rattle.cordic.specs.declared.Pair.{Pair}
use Rattle.cordic.specs.Range.{InRange}
use Rattle.cordic.specs.MicroRotation.{micro_rotation_of, micro_rotations, leading, sign}
use Rattle.integers.proofs.Magnitude.{mag-add, mag-sub, mag_shr_is}

-- ---- how far the words grow

-- the bound after n micro-rotations, from any words of 32 bits, negated or not
bound : ℕ → ℕ
bound zero = 2 ^ 31
bound (suc n) = bound n + bound n / 2 ^ n + 1

bound-up : (k n : ℕ) → bound n ≤ bound (k + n)
unfolding bound
bound-up zero n = rw zero-add (le_refl (bound n))
bound-up (suc k) n = rw suc-add (omega (arith, bound-up k n))

bound-small : (n : ℕ) → n ≤ 28 → bound n < 2 ^ 33 + 2 ^ 32
unfolding bound
bound-small n h =
    let e : 28 - n + n ≡ 28 = omega arith in
    let top : bound (28 - n + n) < 2 ^ 33 + 2 ^ 32 = rw e (omega arith) in
    omega (arith, bound-up (28 - n) n)

micro_rotation_within : (n : ℕ) (s : Bool) (p : Pair) → InRange (bound n) p → InRange (bound (suc n)) (micro_rotation_of n s p)
unfolding micro_rotation_of bound
micro_rotation_within n true p h =
    record {
      upper = omega (arith, mag-add p.u (shr_z p.v (2 ^ n)), mag_shr_is p.v (2 ^ n), shr_mono n h.lower);
      lower = omega (arith, mag-sub p.v (shr_z p.u (2 ^ n)), mag_shr_is p.u (2 ^ n), shr_mono n h.upper);
    }
micro_rotation_within n false p h =
    record {
      upper = omega (arith, mag-sub p.u (shr_z p.v (2 ^ n)), mag_shr_is p.v (2 ^ n), shr_mono n h.lower);
      lower = omega (arith, mag-add p.v (shr_z p.u (2 ^ n)), mag_shr_is p.u (2 ^ n), shr_mono n h.upper);
    }

micro_rotations-bound : (s : ℕ → Bool) (n : ℕ) (p : Pair) → InRange (2 ^ 31) p → InRange (bound n) (micro_rotations s n p)
unfolding micro_rotations bound
micro_rotations-bound s zero p h = h
micro_rotations-bound s (suc n) p h = micro_rotation_within n (s n) (micro_rotations s n p) (micro_rotations-bound s n p h)

-- after any of the 28 micro-rotations a word times the gain fits 64 bits
pub micro_rotations_within : (s : ℕ → Bool) (n : ℕ) (p : Pair) → n ≤ 28 → InRange (2 ^ 31) p → InRange (2 ^ 33 + 2 ^ 32) (micro_rotations s n p)
micro_rotations_within s n p k h =
    let w = micro_rotations-bound s n p h in
    record { upper = omega (arith, bound-small n k, w.upper); lower = omega (arith, bound-small n k, w.lower) }

-- ---- signs

-- the leading column is a column whose signs are its own
pub leading_is : (n : ℕ) (p : Pair) → leading n p ≡ micro_rotations (sign p) n p
unfolding leading micro_rotations sign
leading_is zero p = refl
leading_is (suc n) p = ap (micro_rotation_of n (non_neg (leading n p).v)) (leading_is n p)

-- only the signs of the micro-rotations made matter
pub micro_rotations_same : (s t : ℕ → Bool) (n : ℕ) (p : Pair) → ((i : ℕ) → i < n → s i ≡ t i) → micro_rotations s n p ≡ micro_rotations t n p
unfolding micro_rotations
micro_rotations_same s t zero p h = refl
micro_rotations_same s t (suc n) p h =
    rw (h n (le_refl (suc n)), micro_rotations_same s t n p (λ i k. h i (omega arith)))
