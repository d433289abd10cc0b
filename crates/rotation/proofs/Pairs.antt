-- Laws of two rows held apart: a store to column k changes that column alone. Assumes nothing.
use Prim.Native.Nat.{ℕ, ◌+◌, ◌≤◌, ◌<◌}
use native.Mathlib.Decide.{ℕ_discrete}
use native.Mathlib.Omega.{arith}
use mathlib.Core.Path.{◌≡◌, ◌∙◌}
use mathlib.Core.Logic.{◌≢◌}
use mathlib.Core.List.{List}
use lib.IntN.{ℤ, pos}
use lib.ListN.{length, set}
use lib.Seq.{get_or-set_same, get_or-set_other}
use Rattle.cordic.specs.declared.Pair.{Pair}
use Rattle.rotation.specs.Stores.{pair_at, Columns}

module _ (us vs : List ℤ) (k : ℕ) (x y : ℤ) where
  pair_same : k < length us → k < length vs → pair_at (set us k x) (set vs k y) k ≡ record { u = x; v = y }
  unfolding pair_at
  pair_same h g = rw (get_or-set_same us k x (pos 0) h, get_or-set_same vs k y (pos 0) g)

  pair_other : (j : ℕ) → j ≢ k → pair_at (set us k x) (set vs k y) j ≡ pair_at us vs j
  unfolding pair_at
  pair_other j d = rw (get_or-set_other us k j x (pos 0) d, get_or-set_other vs k j y (pos 0) d)

  next_at : (f : ℕ → Pair) (from j : ℕ) → k < length us → k < length vs → Columns f from k us vs → record { u = x; v = y } ≡ f k → from ≤ j → j < k + 1 → Dec (j ≡ k) → pair_at (set us k x) (set vs k y) j ≡ f j
  next_at f from j h g done e p q (yes d) = rw d (pair_same h g ∙ e)
  next_at f from j h g done e p q (no d) = pair_other j d ∙ done j p (omega arith)

  -- column k is stored as f says
  pub next : (f : ℕ → Pair) (from : ℕ) → k < length us → k < length vs → Columns f from k us vs → record { u = x; v = y } ≡ f k → Columns f from (k + 1) (set us k x) (set vs k y)
  next f from h g done e j p q = next_at f from j h g done e p q (ℕ_discrete j k)

  -- the columns after it are as they were
  pub later : (f : ℕ → Pair) → ((j : ℕ) → k ≤ j → pair_at us vs j ≡ f j) → (j : ℕ) → k + 1 ≤ j → pair_at (set us k x) (set vs k y) j ≡ f j
  later f rest j h = pair_other j (omega arith) ∙ rest j (omega arith)
