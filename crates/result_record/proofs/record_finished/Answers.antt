-- A row that fails decides, and one that passes adds its sixteen words.
use Rattle.std.proofs.Common.{arith, sym}
use Rattle.lists.proofs.Passing.{pass_none, pass_done}
use Rattle.result_record.specs.ResultRecord.{is_finished}
use Rattle.result_record.proofs.Rows.{word_test, row_fails, row_holds}
use Rattle.result_record.proofs.record_finished.Goals as goal

pub loop-i-init : goal.loop-i-init
loop-i-init c = pass_none 256 _

pub returns-then-not-row_finished : goal.returns-then-not-row_finished
returns-then-not-row_finished c = row_fails _ _ c.loop-i-test.true (sym c.if-not-row_finished.ensures)

pub loop-i-preserved : goal.loop-i-preserved
loop-i-preserved c =
    row_holds _ _ c.loop-i-test.true (sym c.if-not-row_finished.ensures) c.loop-i.invariant

pub returns : goal.returns
unfolding is_finished word_test
returns c = pass_done c.loop-i.invariant (omega arith)
