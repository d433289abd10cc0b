-- The first k weights are in their places.
use Rattle.lists.proofs.Filling.{Filling}
use Rattle.weights.specs.Solution.{component_of}
use Rattle.weights.specs.Weights.{weight_of}
use Rattle.weights.proofs.all_weights.Given as goal

abbrev pub invariant-loop-k : goal.invariant-loop-k
invariant-loop-k l = Filling 8 (weight_of (component_of l.x)) l.initial.weights l.k l.weights
