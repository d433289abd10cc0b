-- Which antennas are heard in the record of any list of snapshots: an element on the diagonal is a quotient of the power. Assumes nothing.
use mathlib.Core.Path.{◌≡◌, refl, sym, ap, subst, ◌∙◌}
use mathlib.Core.Bool.{Bool, true, false, cond}
use Prim.Native.Nat.{ℕ, ◌*◌, ◌/◌, ◌≤◌, ◌<◌}
use native.Mathlib.Nat.{le-div_iff_mul-le, div-lt_iff_lt-mul}
use native.Mathlib.Omega.{arith}
use borrow.Author.Tests.{leb-true, leb-false, ltb-true, lt-ltb, le-ltb}
use lib.Dec.{leb, ltb}
use lib.IntN.{pos}
use lib.Signed.{lt_z}
use Rattle.matrix_record.specs.MatrixRecord.{antenna_heard_of}
use Rattle.covariance.specs.WriteMatrix.{normalized}
use Rattle.covariance_laws.specs.Snapshots.{sums_after}
use Rattle.covariance_laws.specs.Accumulated.{added_of}
use Rattle.covariance_laws.specs.HeardByPower.{power_of, HeardByPower}
use Rattle.covariance_laws.proofs.Accumulated.{accumulated}
use Rattle.covariance_laws.proofs.WrittenMatrix.{some_added}
use Rattle.covariance_laws.proofs.Hermitian.{own_element}

module _ (count n : ℕ) (some : 0 < count) where
  -- the divisor is not 0
  divisor : 0 < 65536 * count
  divisor = omega arith

  above_iff : (b : Bool) → leb (1114112 * count) n ≡ b → ltb 16 (n / (65536 * count)) ≡ b
  above_iff true e =
      let h : 17 * (65536 * count) ≤ n = omega (arith, leb-true (1114112 * count) n e) in
      lt-ltb 16 (n / (65536 * count)) ((le-div_iff_mul-le {k = 65536 * count} {x = 17} {y = n} divisor).1 h)
  above_iff false e =
      let h : n < 17 * (65536 * count) = omega (arith, leb-false (1114112 * count) n e) in
      let q : n / (65536 * count) < 17 = (div-lt_iff_lt-mul {k = 65536 * count} {x = n} {y = 17} divisor).1 h in
      le-ltb 16 (n / (65536 * count)) (omega (arith, q))

  -- the clamp at 32,767 does not matter
  clamped : (b : Bool) → ltb 32767 (n / (65536 * count)) ≡ b → lt_z (pos 16) (cond b (pos 32767) (pos (n / (65536 * count)))) ≡ ltb 16 (n / (65536 * count))
  clamped true e = sym (lt-ltb 16 (n / (65536 * count)) (omega (arith, ltb-true 32767 (n / (65536 * count)) e)))
  clamped false e = refl

  above : lt_z (pos 16) (normalized count (pos n)) ≡ leb (1114112 * count) n
  unfolding normalized
  above = clamped (ltb 32767 (n / (65536 * count))) refl ∙ above_iff (leb (1114112 * count) n) refl

pub heard_by_power : HeardByPower
unfolding antenna_heard_of
heard_by_power l buffer short accepted k h =
    let some = subst (λ (n : ℕ). 0 < n) (accumulated l short).count (some_added (sums_after l) buffer accepted) in
    ap (lt_z (pos 16)) (own_element l buffer short accepted k h) ∙ above (added_of l) (power_of l k) some
