-- Document 02, U1: what rotations count, by side, and how the counts of several add up. Assumes nothing.
use Rattle.std.specs.Prelude.{ℕ, ◌+◌, ◌*◌, ◌≤◌}
use Rattle.rotation.specs.declared.Saturations.{Saturations}

abbrev pub no_saturations : Saturations
no_saturations = record { r = 0; q = 0 }

-- both together, each side by itself
unfoldable pub added : Saturations → Saturations → Saturations
added a b = record { r = a.r + b.r; q = a.q + b.q }

-- no more than n rotations count: each alters at most two words of each of a side's 16 columns
pub record CountOf (n : ℕ) (s : Saturations) : Type 0 where
  pub r : s.r ≤ 32 * n
  pub q : s.q ≤ 32 * n
