-- The first k words are filled.
use Rattle.lists.proofs.Filling.{Filling}
use Rattle.workspace.proofs.filling.fill.Given as goal

abbrev pub invariant-loop-k : goal.invariant-loop-k
invariant-loop-k g l = Filling 512 (g.R.Filling.word_of l.bytes) l.fn.workspace l.k l.workspace
