-- The components of the rows from row i on.
use Rattle.std.proofs.Common.{◌≡◌, ◌-◌, length}
use Rattle.result_record.specs.ResultRecord.{record_r, record_q}
use Rattle.weights.specs.Solution.{part_at, worked_rows}
use Rattle.weights.proofs.system.System.solution.Given as goal

abbrev pub invariant-loop-i : goal.invariant-loop-i
invariant-loop-i l = record {
  sized : length l.x ≡ 16;
  is : l.x ≡ worked_rows (record_r l.self.bytes.now) (record_q l.self.bytes.now) (part_at l.self.parts) (16 - l.i);
}
