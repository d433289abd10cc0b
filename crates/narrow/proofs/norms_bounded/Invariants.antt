-- The columns before k pass the test. Assumes nothing.
use Rattle.lists.proofs.Passing.{Passed}
use Rattle.narrow.specs.Narrow.{norm_bounded}
use Rattle.narrow.proofs.norms_bounded.Given as goal

abbrev pub invariant-loop-k : goal.invariant-loop-k
invariant-loop-k l = Passed 32 (norm_bounded l.base l.column l.part) l.k
