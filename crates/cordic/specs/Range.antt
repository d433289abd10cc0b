-- Only the contracts of inner functions use this: the range of a column's two words between micro-rotations. Assumes nothing.
use Rattle.std.specs.Prelude.{ℕ, ◌≤◌}
use Rattle.std.specs.Int.Signed.{mag}
use Rattle.cordic.specs.declared.Pair.{Pair}

-- both words of a pair lie from -(b + 1) to b
pub record InRange (b : ℕ) (p : Pair) : Type 0 where
  pub upper : mag p.u ≤ b
  pub lower : mag p.v ≤ b
