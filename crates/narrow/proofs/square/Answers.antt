-- The square of a 32-bit word is at most 2^62. Assumes nothing.
use Rattle.std.proofs.Common.{◌≡◌, ◌^◌, ◌≤◌, ◌∙◌, arith, refl}
use native.Mathlib.Nat.{mul-le-mul}
use lib.IntN.{ℤ, ◌*ℤ◌}
use lib.Signed.{nat_abs-le}
use mir.Syntax.{w32, w64}
use mir.Val.{SFits}
use mir.Facts.{to_z-of_z}
use Rattle.integers.proofs.Laws.{square_is}
use Rattle.integers.specs.Square.{square}
use Rattle.narrow.proofs.Mask.{wide}
use Rattle.narrow.proofs.square.Goals as goal

square-most : (w : ℤ) → SFits w32 w → square w ≤ 2 ^ 62
square-most w f =
    let b = nat_abs-le w f.sfits in
    mul-le-mul b b

product : (w : ℤ) → SFits w32 w → SFits w64 (w *ℤ w)
product w f = rw (square_is w) (record { sfits = omega (arith, square-most w f) })

pub returns : goal.returns
returns c =
    let f = c.ranges.w in
    let e : c.unsigned_abs.result ≡ square c.args.w = c.unsigned_abs.ensures.value ∙ rw (c.from-x.ensures, to_z-of_z f, to_z-of_z (wide f), to_z-of_z (product c.args.w f), square_is c.args.w) refl in
    (e, rw e (square-most c.args.w f))
