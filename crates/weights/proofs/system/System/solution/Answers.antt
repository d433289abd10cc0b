-- One row more, until all 16 are worked.
use Rattle.std.proofs.Common.{◌≡◌, refl, ℕ, suc, ◌-◌, ◌≤◌, ◌<◌, arith, List, set, length-set, ℤ}
use lib.Ieee.{Float, of_bits}
use Rattle.integers.specs.Matrix.{Matrix}
use Rattle.weights.specs.Solution.{row_component_of, component_of, worked_rows}
use Rattle.weights.proofs.system.System.solution.Goals as goal

more : (r q : Matrix) (t : ℕ → ℤ) (i : ℕ) → 0 < i → i ≤ 16 → {x : List Float} {y : Float} → x ≡ worked_rows r q t (16 - i) → y ≡ row_component_of r q t (component_of x) (i - 1)
    → set x (i - 1) y ≡ worked_rows r q t (16 - (i - 1))
unfolding worked_rows
more r q t i some few e f =
    let next : 16 - (i - 1) ≡ suc (16 - i) = omega arith in
    let place : 15 - (16 - i) ≡ i - 1 = omega arith in
    rw (next, place, f, e)

pub loop-i-init : goal.loop-i-init
unfolding worked_rows of_bits
loop-i-init c = record { sized = refl; is = refl }

pub loop-i-preserved : goal.loop-i-preserved
loop-i-preserved c =
    let i = c.loop-i.invariant in
    record { sized = simp length-set i.sized; is = more _ _ _ c.loop-i.i c.loop-i-test.true c.loop-i.auto.i i.is c.component.ensures }

pub returns : goal.returns
returns c =
    let all : 16 - c.loop-i.i ≡ 16 = omega arith in
    rw all at c.loop-i.invariant.is
