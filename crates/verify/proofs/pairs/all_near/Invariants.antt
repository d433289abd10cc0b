-- The pairs below k are near. Assumes nothing.
use Rattle.lists.proofs.Passing.{Passed}
use Rattle.verify.specs.Sums.{is_near}
use Rattle.verify.proofs.pairs.all_near.Given as goal

abbrev pub invariant-loop-k : goal.invariant-loop-k
invariant-loop-k l = Passed 512 (is_near l.words l.loaded) l.k
