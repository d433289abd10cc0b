-- Only laws and the contracts of inner functions use this: the size of a column's two words, and how large it may be where a rotation is to stay in 32
-- bits. Assumes nothing.
use Rattle.std.specs.Prelude.{ℕ, ◌+◌, ◌-◌, ◌^◌, ℤ, ◌+ℤ◌, ◌*ℤ◌}
use Rattle.integers.specs.Within.{Within}
use Rattle.cordic.specs.declared.Pair.{Pair}

-- the dot product of two columns in their two rows; of a column with itself it is u² + v²
abbrev pub dot : Pair → Pair → ℤ
dot c d = c.u *ℤ d.u +ℤ c.v *ℤ d.v

-- both words of a column are at most M in size
pub record Small (M : ℕ) (c : Pair) : Type 0 where
  pub u : Within c.u M
  pub v : Within c.v M

-- how large u² + v² may be before a rotation
abbrev pub norm_bound : ℕ
norm_bound = 2 ^ 60 + 2 ^ 44

-- each word then stays within this through all 28 micro-rotations
abbrev pub most : ℕ
most = 2 ^ 31 - 1
