-- One word more is filled.
use Rattle.std.proofs.Common.{rules, w32}
use mir.Val.{SFits}
use mir.Facts.{to_z-of_z}
use Rattle.lists.proofs.Filling.{fill_none, fill_more, fill_done}
use Rattle.workspace.proofs.filling.fill.Goals as goal

pub loop-k-init : goal.loop-k-init
loop-k-init g c = fill_none 512 _ _

pub loop-k-preserved : goal.loop-k-preserved
loop-k-preserved g c =
    let f : SFits w32 c.word.result = search rules in
    fill_more c.loop-k.invariant c.loop-k-test.true c.requires (rw (to_z-of_z f) c.word.ensures)

pub returns : goal.returns
returns g c = fill_done c.loop-k.invariant c.loop-k-test.false
