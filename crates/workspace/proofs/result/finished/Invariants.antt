-- The first k words of R are right. Assumes nothing.
use Rattle.std.proofs.Common.{ℕ, ◌/◌, ◌%◌}
use Rattle.lists.proofs.Passing.{Passed}
use Rattle.result_record.specs.ResultRecord.{is_finished_at}
use Rattle.workspace.specs.Workspace.{R}
use Rattle.workspace.proofs.result.finished.Given as goal

abbrev pub invariant-loop-k : goal.invariant-loop-k
invariant-loop-k l = Passed 256 (λ (n : ℕ). is_finished_at (n / 16) (n % 16) (R l.workspace (n / 16) (n % 16))) l.k
