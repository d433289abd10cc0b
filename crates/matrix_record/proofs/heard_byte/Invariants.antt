-- The byte has the bits below bit k.
use Rattle.std.proofs.Common.{◌≡◌, ◌<◌, ◌^◌}
use Rattle.matrix_record.specs.MatrixRecord.{heard_below}
use Rattle.matrix_record.proofs.heard_byte.Given as goal

abbrev pub invariant-loop-k : goal.invariant-loop-k
invariant-loop-k l = record { is : l.heard ≡ heard_below l.bytes l.k; below : l.heard < 2 ^ l.k }
