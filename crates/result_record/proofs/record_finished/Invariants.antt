-- The first i rows of R are right.
use Rattle.std.proofs.Common.{◌*◌}
use Rattle.lists.proofs.Passing.{Passed}
use Rattle.result_record.proofs.Rows.{word_test}
use Rattle.result_record.proofs.record_finished.Given as goal

abbrev pub invariant-loop-i : goal.invariant-loop-i
invariant-loop-i l = Passed 256 (word_test l.bytes) (16 * l.i)
