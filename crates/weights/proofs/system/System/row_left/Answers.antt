-- One column more, until those after the diagonal are all taken off.
use Rattle.std.proofs.Common.{◌≡◌, ℕ, suc, ◌+◌, ◌-◌, ◌≤◌, arith}
use lib.Ieee.{Float, binary64, sub, mul}
use Rattle.integers.specs.Matrix.{Matrix}
use Rattle.weights.specs.Solution.{float, row_left_of}
use Rattle.weights.proofs.system.System.row_left.Goals as goal

more : (r : Matrix) (x : ℕ → Float) (i : ℕ) (b : Float) (j : ℕ) → i + 1 ≤ j → {s w : Float} → s ≡ row_left_of r x i b (j - (i + 1)) → w ≡ float (r i j)
    → sub binary64 s (mul binary64 w (x j)) ≡ row_left_of r x i b (j + 1 - (i + 1))
unfolding row_left_of
more r x i b j l e f =
    let next : j + 1 - (i + 1) ≡ suc (j - (i + 1)) = omega arith in
    let place : i + 1 + (j - (i + 1)) ≡ j = omega arith in
    rw (next, place, e, f)

pub loop-j-init : goal.loop-j-init
unfolding row_left_of
loop-j-init c = let none : c.args.i + 1 - (c.args.i + 1) ≡ 0 = omega arith in rw none

pub loop-j-preserved : goal.loop-j-preserved
loop-j-preserved c = more _ _ _ _ c.loop-j.j c.loop-j.auto.j c.loop-j.invariant c.r_float.ensures

pub returns : goal.returns
returns c =
    let all : c.loop-j.j - (c.args.i + 1) ≡ 15 - c.args.i = omega arith in
    rw all at c.loop-j.invariant
