-- The weights one by one, until all eight are in their places.
use Rattle.std.proofs.Common.{◌∙◌, refl, arith}
use Rattle.lists.proofs.Tabulate.{filled_all}
use Rattle.lists.proofs.Filling.{fill_none, fill_more, fill_done}
use Rattle.weights.proofs.all_weights.Goals as goal

pub loop-k-init : goal.loop-k-init
loop-k-init c = fill_none 8 _ _

pub loop-k-preserved : goal.loop-k-preserved
loop-k-preserved c = fill_more c.loop-k.invariant c.loop-k-test.true (omega arith) refl

pub returns : goal.returns
returns c = fill_done c.loop-k.invariant c.loop-k-test.false ∙ filled_all 8 _ _ (omega arith)
