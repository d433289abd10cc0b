-- A bound of the absolute value. Assumes nothing.
use Rattle.std.specs.Prelude.{ℕ, ◌≤◌, Bool, leb, ℤ, nat_abs}

-- x lies from -n to n. So `Within (x -ℤ y) n` says that x lies within n of y: a difference of at most n either way.
-- A record, so that the two numbers can be inferred from a hypothesis; `omega` reads its field
pub record Within (x : ℤ) (n : ℕ) : Type 0 where
  pub abs : nat_abs x ≤ n

-- the same as a test
unfoldable pub is_within : ℤ → ℕ → Bool
is_within x n = leb (nat_abs x) n
