-- Any number of the loudest snapshots but none is written. Assumes nothing.
use mathlib.Core.Path.{◌≡◌, ◌∙◌}
use Prim.Native.Nat.{ℕ, ◌<◌}
use native.Mathlib.Omega.{arith}
use borrow.Author.Tests.{ne_eqb}
use lib.ListN.{replicate, length-replicate}
use Rattle.covariance.specs.WriteMatrix.{write_of}
use Rattle.covariance_laws.specs.Snapshots.{sums_after}
use Rattle.covariance_laws.proofs.Accumulated.{accumulated}
use Rattle.covariance_laws.proofs.Possible.{loudest, parts_possible}

pub write_possible : (n : ℕ) → 0 < n → (write_of (sums_after (replicate n loudest)) (replicate 257 0)).number ≡ 0
write_possible n h =
    (accumulated (replicate n loudest) (parts_possible n)).write (replicate 257 0)
    ∙ rw (length-replicate n loudest, ne_eqb n 0 (λ e. omega arith))
