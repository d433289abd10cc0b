-- The columns have made i micro-rotations. Assumes nothing.
use Rattle.std.proofs.Common.{ℕ}
use Rattle.cordic.specs.MicroRotation.{micro_rotations, sign}
use Rattle.rows.specs.Lanes.{lane, Lanes}
use Rattle.rows.proofs.rotate_columns.Given as goal

abbrev pub invariant-loop-i : goal.invariant-loop-i
invariant-loop-i g l =
    let f = g.W.Lane.number in
    Lanes f (λ (j : ℕ). micro_rotations (sign (lane f l.fn.us l.fn.vs 0)) l.i (lane f l.fn.us l.fn.vs j)) l.count l.us l.vs
