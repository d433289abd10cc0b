-- The parts one by one, until all 16 are in their places.
use Rattle.std.proofs.Common.{◌∙◌, arith, pos, replicate}
use mir.Syntax.{w16}
use Rattle.integers.proofs.Magnitude.{read_back}
use Rattle.lists.proofs.Tabulate.{filled_all}
use Rattle.lists.proofs.Filling.{fill_none, fill_more, fill_done}
use Rattle.weights.proofs.system.System.new.Goals as goal

pub loop-k-init : goal.loop-k-init
loop-k-init c = fill_none 16 _ (replicate 16 (pos 0))

pub loop-k-preserved : goal.loop-k-preserved
loop-k-preserved c = fill_more c.loop-k.invariant c.loop-k-test.true (omega arith) (read_back w16 c.target_part.type_inv ∙ c.target_part.ensures)

pub returns-clause-parts : goal.returns-clause-parts
returns-clause-parts c = fill_done c.loop-k.invariant c.loop-k-test.false ∙ filled_all 16 _ (replicate 16 (pos 0)) (omega arith)
