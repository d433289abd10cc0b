-- The tag and the first n parts are written.
use Rattle.std.proofs.Common.{◌+◌, ◌*◌}
use Rattle.lists.proofs.Filling.{Filling}
use Rattle.matrix_record.specs.MatrixRecord.{matrix_byte}
use Rattle.covariance.specs.WriteMatrix.{element_part}
use Rattle.covariance.proofs.Sums.write_record.Given as goal

abbrev pub invariant-loop-n : goal.invariant-loop-n
invariant-loop-n l = Filling 257 (matrix_byte (element_part l.self.count l.self.words)) l.initial.buffer (1 + 2 * l.n) l.buffer
