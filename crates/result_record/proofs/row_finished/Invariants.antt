-- The first j words of the row are 0.
use Rattle.std.proofs.Common.{ℕ, ◌≤◌}
use Rattle.lists.proofs.Passing.{Passed}
use Rattle.result_record.specs.ResultRecord.{record_r, is_finished_at}
use Rattle.result_record.proofs.row_finished.Given as goal

abbrev pub invariant-loop-j : goal.invariant-loop-j
invariant-loop-j l = record { within : l.j ≤ l.i; passed : Passed 16 (λ (n : ℕ). is_finished_at l.i n (record_r l.bytes l.i n)) l.j }
