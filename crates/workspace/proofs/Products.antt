-- Products of two columns of a workspace within two rows, and what a Givens rotation keeps of them. A workspace is a function of row and column here. Assumes
-- nothing.
use mathlib.Core.Path.{◌≡◌}
use mathlib.Core.Logic.{◌≢◌}
use Prim.Native.Nat.{ℕ, ◌+◌, ◌^◌, ◌≤◌, ◌<◌}
use lib.IntN.{ℤ, pos, ◌+ℤ◌, ◌-ℤ◌, ◌*ℤ◌}
use lib.Signed.{◌≤ℤ◌}
use Rattle.cordic.specs.Norm.{norm_bound}
use Rattle.integers.specs.Within.{Within}
use Rattle.integers.specs.Square.{square}
use Rattle.schedule.specs.declared.Rotation.{Rotation}
use Rattle.integers.specs.Matrix.{Matrix}

-- the part of the sum of products of columns a and b that two rows hold
abbrev pub pair : Matrix → ℕ → ℕ → ℕ → ℕ → ℤ
pair W u l a b = W u a *ℤ W u b +ℤ W l a *ℤ W l b

-- the squared length of column a in two rows
abbrev pub pair_norm : Matrix → ℕ → ℕ → ℕ → ℕ
pair_norm W u l a = square (W u a) + square (W l a)

-- what is asked of a rotation t that takes the workspace W to W'
pub record GivensStep (t : Rotation) (W W' : Matrix) : Type 0 where
  -- other rows, and the columns before the leading one, stay
  pub other_row : (r c : ℕ) → r < 16 → c < 32 → r ≢ t.upper → r ≢ t.lower → W' r c ≡ W r c
  pub other_column : (r c : ℕ) → r < 16 → c < t.column → W' r c ≡ W r c
  -- in the leading column the lower word is 0, and the upper one is not negative
  pub lower-zero : W' t.lower t.column ≡ pos 0
  pub upper_nonneg : pos 0 ≤ℤ W' t.upper t.column
  -- from the leading column on, the product of two columns is kept within 2^37, where their words are small enough
  pub pair-kept : (a b : ℕ) → t.column ≤ a → a < 32 → t.column ≤ b → b < 32
      → pair_norm W t.upper t.lower a ≤ norm_bound → pair_norm W t.upper t.lower b ≤ norm_bound
      → Within (pair W' t.upper t.lower a b -ℤ pair W t.upper t.lower a b) (2 ^ 37)
