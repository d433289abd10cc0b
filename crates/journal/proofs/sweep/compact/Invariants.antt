-- The entries passed that stay are in front, and the rest of the log is as before.
use Rattle.std.proofs.Common.{◌-◌, length}
use Rattle.journal.proofs.Sweeping.{Sweeping}
use Rattle.journal.proofs.sweep.compact.Given as goal

abbrev pub invariant-loop-head : goal.invariant-loop-head
invariant-loop-head l = Sweeping l.day l.fn.log l.at l.to l.log

abbrev pub decreases-loop-head : goal.decreases-loop-head
decreases-loop-head l = length l.log - l.at
