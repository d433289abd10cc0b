-- What is left of the scan is a run exactly if all is.
use Rattle.std.proofs.Common.{◌≡◌, length}
use Rattle.journal.specs.Held.{entries, is_some}
use Rattle.journal.proofs.format.is_log.Given as goal

abbrev pub invariant-loop-head : goal.invariant-loop-head
invariant-loop-head l = is_some (entries l.rest) ≡ is_some (entries l.bytes)

abbrev pub decreases-loop-head : goal.decreases-loop-head
decreases-loop-head l = length l.rest
