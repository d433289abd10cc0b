-- The direction is the definition's: what is left is by the machine's own sums.
use Rattle.std.proofs.Common.{rules}
use Rattle.cordic.specs.MicroRotation.{micro_rotation_of}
use Rattle.cordic.proofs.micro_rotation.Goals as goal

pub returns-then-positive : goal.returns-then-positive
unfolding micro_rotation_of
returns-then-positive c = rw c.if-positive.true (search rules)

pub returns-else-positive : goal.returns-else-positive
unfolding micro_rotation_of
returns-else-positive c = rw c.if-positive.false (search rules)
