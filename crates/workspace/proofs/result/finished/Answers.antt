-- One word more of R is right, or the test fails at it. Assumes nothing.
use Rattle.std.proofs.Common.{◌/◌, ◌%◌, ◌+◌, ◌*◌, ◌∙◌, sym, ap, rules, w32}
use lib.IntN.{pos}
use lib.ListN.{get_or}
use mir.Val.{SFits}
use mir.Facts.{to_z-of_z}
use Rattle.lists.proofs.Passing.{pass_none, pass_more, pass_done, pass_fails}
use Rattle.result_record.specs.ResultRecord.{is_finished_at, is_finished}
use Rattle.workspace.specs.Workspace.{R, word_in}
use Rattle.workspace.proofs.result.finished.Goals as goal

pub loop-k-init : goal.loop-k-init
loop-k-init c = pass_none 256 _

pub returns-then-not-finished_at : goal.returns-then-not-finished_at
unfolding is_finished R word_in
returns-then-not-finished_at c =
    let f : SFits w32 (get_or c.args.workspace.now (c.loop-k.k / 16 * 32 + c.loop-k.k % 16) (pos 0)) = search rules in
    pass_fails c.loop-k.invariant c.loop-k-test.true
    (sym (c.finished_at.ensures ∙ ap (is_finished_at _ _) (to_z-of_z f)) ∙ c.if-not-finished_at.true)

pub loop-k-preserved : goal.loop-k-preserved
unfolding R word_in
loop-k-preserved c =
    let f : SFits w32 (get_or c.args.workspace.now (c.loop-k.k / 16 * 32 + c.loop-k.k % 16) (pos 0)) = search rules in
    pass_more c.loop-k.invariant c.loop-k-test.true
    (sym (c.finished_at.ensures ∙ ap (is_finished_at _ _) (to_z-of_z f)) ∙ c.if-not-finished_at.false)

pub returns : goal.returns
unfolding is_finished
returns c = pass_done c.loop-k.invariant c.loop-k-test.false
