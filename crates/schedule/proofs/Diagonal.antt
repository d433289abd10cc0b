-- What that claim says of each row and column. Assumes nothing.
use mathlib.Core.Logic.{◌⊎◌, inl, inr}
use Prim.Native.Nat.{ℕ, suc, ◌<◌}
use native.Mathlib.Omega.{arith}
use Rattle.integers.proofs.Claim.{Means, each_at}
use Rattle.schedule.proofs.Clear.{cleared, raised, done}
use Rattle.schedule.proofs.Finished.{clear_below, column, order-finished}

pub diagonal_raised : (j : ℕ) → j < 15 → Means (raised (done 120) j j)
unfolding column
diagonal_raised j h = (each_at 15 (column (done 120)) order-finished j h).0

pub below_cleared : (r c : ℕ) → c < r → r < 16 → Means (cleared (done 120) r c)
unfolding column clear_below
below_cleared r c h k = pick (each_at 16 (clear_below (done 120) c) (each_at 15 (column (done 120)) order-finished c (omega arith)).1 r k)
  where
    pick : (r < suc c) ⊎ Means (cleared (done 120) r c) → Means (cleared (done 120) r c)
    pick (inl q) = absurd (omega arith)
    pick (inr q) = q
