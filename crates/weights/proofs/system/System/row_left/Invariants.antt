-- What is left after the columns before j.
use Rattle.std.proofs.Common.{◌≡◌, ◌-◌, ◌+◌}
use Rattle.result_record.specs.ResultRecord.{record_r}
use Rattle.weights.specs.Solution.{row_left_of, component_of}
use Rattle.weights.proofs.system.System.row_left.Given as goal

abbrev pub invariant-loop-j : goal.invariant-loop-j
invariant-loop-j l = l.s ≡ row_left_of (record_r l.self.bytes.now) (component_of l.x) l.i l.b (l.j - (l.i + 1))
