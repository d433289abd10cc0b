-- The quotient is at most 32,768 either way, so the clamp from above leaves 16 bits.
use Rattle.std.proofs.Common.{◌≡◌, refl, Bool, true, false, cond, ℕ, ◌*◌, ◌^◌, ◌≤◌, ◌<◌, arith, ℤ, pos, nat_abs, ◌*ℤ◌, w64}
use lib.Signed.{quot_z, lt_z}
use lib.Dec.{lit<}
use mir.Val.{SFits}
use mir.Facts.{to_z-of_z, sfits_widen}
use Rattle.std.specs.Int.{int_min}
use Rattle.integers.proofs.Within.{within, within_pos}
use Rattle.covariance.specs.WriteMatrix.{normalized}
use Rattle.covariance.proofs.Machine.{read, back}
use Rattle.covariance.proofs.Normalized.{quotient_near, normalized_fits, normalized-high, normalized-kept}
use Rattle.covariance.proofs.write.normalize.Goals as goal

module _ (count : ℕ) (sum : ℤ) (small : count < 2 ^ 32) (near : nat_abs sum ≤ 2 ^ 31 * count) where
  abbrev divisor : ℤ
  divisor = pos 65536 *ℤ read (pos count)

  divisor_is : read divisor ≡ pos (65536 * count)
  divisor_is = rw (back (within_pos count) (omega arith)) (back (within_pos (65536 * count)) (omega arith))

  quotient_is : read (quot_z (read sum) (read divisor)) ≡ quot_z sum (pos (65536 * count))
  quotient_is = rw (divisor_is, back (within {x = sum} near) (omega arith)) (back (quotient_near count sum near) (lit< tt))

  clamped : (t : Bool) → lt_z (pos 32767) (quot_z sum (pos (65536 * count))) ≡ t → cond t (pos 32767) (quot_z sum (pos (65536 * count))) ≡ normalized count sum
  clamped true e = normalized-high count sum e
  clamped false e = normalized-kept count sum e

  clamped_is : int_min (read (quot_z (read sum) (read divisor))) (pos 32767) ≡ normalized count sum
  clamped_is = rw quotient_is (clamped _ refl)

pub returns : goal.returns
returns c =
    let fits = normalized_fits c.args.count c.args.sum c.requires.1 in
    let wide : SFits w64 (normalized c.args.count c.args.sum) = sfits_widen tt fits in
    let from = c.from.ensures in
    rw (c.min.ensures.value, from, clamped_is c.args.count c.args.sum (omega arith) c.requires.1, to_z-of_z wide, to_z-of_z fits)
