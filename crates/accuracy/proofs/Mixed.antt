-- The two calls alone, and with refused ones of every kind before, between and after them. Assumes nothing.
use mathlib.Core.List.{List, []}
use Prim.Native.Nat.{ℕ, ◌≤◌}
use lib.ListN.{length}
use Rattle.accuracy.specs.Demand3.{Load, start}
use Rattle.accuracy.proofs.Stray.{AllRefused, stray, stray_refused}
use Rattle.accuracy.proofs.Possible.{ended, Possible, possible}

-- the two alone: what an accepted Whole does
pub alone : (l : Load) (buffer : List ℕ) → 2049 ≤ length buffer → Possible l [] [] [] buffer
unfolding AllRefused
alone l buffer space = possible l [] [] [] buffer tt tt tt space

pub mixed : (l : Load) (buffer : List ℕ) → 2049 ≤ length buffer → Possible l stray stray stray buffer
mixed l buffer space = possible l stray stray stray buffer (stray_refused (start l)) (stray_refused (ended l)) (stray_refused (ended l)) space
