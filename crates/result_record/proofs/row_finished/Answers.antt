-- The words before the diagonal one by one, and then the diagonal word, which decides.
use Rattle.std.proofs.Common.{arith, ap, w32, ◌∙◌}
use Rattle.integers.proofs.Magnitude.{read_back}
use Rattle.lists.proofs.Passing.{pass_none, pass_more, pass_fails}
use Rattle.result_record.specs.ResultRecord.{is_finished_at}
use Rattle.result_record.proofs.Rows.{before_passes, before_fails, diagonal_is}
use Rattle.result_record.proofs.row_finished.Goals as goal

pub loop-j-init : goal.loop-j-init
loop-j-init c = record { within = omega arith; passed = pass_none 16 _ }

pub returns-then-r-ne0 : goal.returns-then-r-ne0
returns-then-r-ne0 c =
    pass_fails c.loop-j.invariant.passed (omega arith)
    (before_fails _ _ _ _ c.loop-j-test.true c.r.ensures c.r.type_inv c.if-r-ne0.true)

pub loop-j-preserved : goal.loop-j-preserved
loop-j-preserved c =
    record {
      within = omega arith;
      passed = pass_more c.loop-j.invariant.passed (omega arith) (before_passes _ _ _ _ c.loop-j-test.true c.r.ensures c.r.type_inv c.if-r-ne0.false);
    }

pub returns : goal.returns
returns c =
    c.finished_at.ensures
    ∙ ap (is_finished_at _ _) (read_back w32 c.r-w.type_inv ∙ c.r-w.ensures)
    ∙ diagonal_is _ _ c.loop-j.j (omega arith) (omega arith) c.loop-j.invariant.passed
