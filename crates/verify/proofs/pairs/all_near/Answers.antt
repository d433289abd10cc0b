-- One pair more is near, or the first that is not decides. Assumes nothing.
use Rattle.std.proofs.Common.{◌∙◌, sym, arith}
use Rattle.lists.proofs.Passing.{pass_none, pass_more, pass_done, pass_fails}
use Rattle.verify.proofs.pairs.all_near.Goals as goal

pub loop-k-init : goal.loop-k-init
loop-k-init c = pass_none 512 _

pub returns-then-not-pair_near : goal.returns-then-not-pair_near
returns-then-not-pair_near c = pass_fails c.loop-k.invariant (omega arith) (sym c.pair_near.ensures ∙ c.if-not-pair_near.true)

pub loop-k-preserved : goal.loop-k-preserved
loop-k-preserved c = pass_more c.loop-k.invariant (omega arith) (sym c.pair_near.ensures ∙ c.if-not-pair_near.false)

pub returns : goal.returns
returns c = pass_done c.loop-k.invariant (omega arith)
