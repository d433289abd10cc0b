-- The first i diagonal words are not 0.
use Rattle.std.proofs.Common.{ℕ, not}
use Rattle.integers.specs.Matrix.{is_zero}
use Rattle.lists.proofs.Passing.{Passed}
use Rattle.result_record.specs.ResultRecord.{record_r}
use Rattle.weights.proofs.diagonal_nonzero.Given as goal

abbrev pub invariant-loop-i : goal.invariant-loop-i
invariant-loop-i l = Passed 16 (λ (n : ℕ). not (is_zero (record_r l.bytes n n))) l.i
