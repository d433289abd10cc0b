-- A part of the matrix: its quotient, and that it fits 16 bits. Assumes nothing.
use mathlib.Core.Path.{◌≡◌, refl}
use mathlib.Core.Bool.{Bool, true, false, cond}
use Prim.Native.Nat.{ℕ, suc, ◌*◌, ◌/◌, ◌^◌, ◌≤◌}
use native.Mathlib.Nat.{div-le_of_le-mul}
use native.Mathlib.Omega.{arith}
use borrow.Author.Tests.{ltb-false}
use lib.Dec.{ltb}
use lib.IntN.{ℤ, pos, negsuc, nat_abs}
use lib.Signed.{lt_z, quot_z}
use mir.Syntax.{w16}
use mir.Val.{SFits}
use Rattle.integers.specs.Within.{Within}
use Rattle.integers.proofs.Laws.{abs_neg}
use Rattle.integers.proofs.Within.{within}
use Rattle.covariance.specs.WriteMatrix.{normalized}

-- division toward zero divides the absolute value
pub abs_quot : (z : ℤ) (d : ℕ) → nat_abs (quot_z z (pos d)) ≡ nat_abs z / d
abs_quot (pos a) d = refl
abs_quot (negsuc a) d = abs_neg (pos (suc a / d))

module _ (count : ℕ) (sum : ℤ) (near : nat_abs sum ≤ 2 ^ 31 * count) where
  -- the quotient of a sum in range is at most 32,768, either way
  pub quotient_near : Within (quot_z sum (pos (65536 * count))) 32768
  quotient_near = within (rw (abs_quot sum (65536 * count)) (div-le_of_le-mul (65536 * count) (omega arith)))

  -- the clamp from above leaves 16 bits: the least quotient, -32,768, fits as it is
  pub normalized_fits : SFits w16 (normalized count sum)
  unfolding normalized
  normalized_fits = go (quot_z sum (pos (65536 * count))) quotient_near
    where
      clamped : (n : ℕ) → n ≤ 32768 → (b : Bool) → ltb 32767 n ≡ b → SFits w16 (cond b (pos 32767) (pos n))
      clamped n h true e = record { sfits = omega arith }
      clamped n h false e = record { sfits = omega (arith, ltb-false 32767 n e) }

      go : (q : ℤ) → Within q 32768 → SFits w16 (cond (lt_z (pos 32767) q) (pos 32767) q)
      go (pos n) h = clamped n h.abs (ltb 32767 n) refl
      go (negsuc n) h = record { sfits = omega (arith, h.abs) }

-- the two cases of the clamp
pub normalized-high : (count : ℕ) (sum : ℤ) → lt_z (pos 32767) (quot_z sum (pos (65536 * count))) ≡ true → pos 32767 ≡ normalized count sum
unfolding normalized
normalized-high count sum e = rw e

pub normalized-kept : (count : ℕ) (sum : ℤ) → lt_z (pos 32767) (quot_z sum (pos (65536 * count))) ≡ false → quot_z sum (pos (65536 * count)) ≡ normalized count sum
unfolding normalized
normalized-kept count sum e = rw e
