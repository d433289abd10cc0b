-- The columns before k have made the micro-rotation, and the others have not. Assumes nothing.
use Rattle.std.proofs.Common.{◌≡◌, ℕ, ◌≤◌}
use Rattle.std.specs.Int.Signed.{non_neg}
use Rattle.cordic.specs.MicroRotation.{micro_rotation_of}
use Rattle.rows.specs.Lanes.{lane, Lanes}
use Rattle.rows.proofs.micro_rotate_columns.Given as goal

abbrev pub invariant-loop-k : goal.invariant-loop-k
invariant-loop-k g l =
    let f = g.W.Lane.number in
    record {
      done : Lanes f (λ (j : ℕ). micro_rotation_of l.i (non_neg (f l.fn.direction)) (lane f l.fn.us l.fn.vs j)) l.k l.us l.vs;
      rest : (j : ℕ) → l.k ≤ j → lane f l.us l.vs j ≡ lane f l.fn.us l.fn.vs j;
    }
