-- The tag and the first m words are written. Assumes nothing.
use Rattle.std.proofs.Common.{◌+◌, ◌*◌, ◌≤◌, length}
use Rattle.lists.proofs.Filling.{Filling}
use Rattle.result_record.specs.ResultRecord.{result_byte}
use Rattle.workspace.specs.Workspace.{R, Q}
use Rattle.workspace.proofs.result.write.Given as goal

abbrev pub invariant-loop-m : goal.invariant-loop-m
invariant-loop-m l =
    record {
      room : 2049 ≤ length l.initial.buffer;
      done : Filling 2049 (result_byte (R l.workspace) (Q l.workspace)) l.initial.buffer (1 + 4 * l.m) l.buffer;
    }
