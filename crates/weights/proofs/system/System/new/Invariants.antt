-- The first k parts are in their places.
use Rattle.std.proofs.Common.{pos, replicate}
use Rattle.lists.proofs.Filling.{Filling}
use Rattle.weights.specs.Solution.{target_part_of}
use Rattle.weights.proofs.system.System.new.Given as goal

abbrev pub invariant-loop-k : goal.invariant-loop-k
invariant-loop-k l = Filling 16 (target_part_of l.targets) (replicate 16 (pos 0)) l.k l.parts
