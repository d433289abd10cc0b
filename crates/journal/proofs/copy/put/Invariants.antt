-- i bytes are copied.
use Rattle.std.proofs.Common.{length}
use Rattle.journal.proofs.Copying.{Copying}
use Rattle.journal.proofs.copy.put.Given as goal

abbrev pub invariant-loop-i : goal.invariant-loop-i
invariant-loop-i l = Copying l.fn.place 0 l.bytes (length l.bytes) l.i l.place
