-- What a matrix that is worked to the end says of lengths, for those who use R without Q (document 02, U6): the length of each column of R against that of the
-- input's, and R's diagonal word 0 against the length of the input's first column. A length is a square root, so its square is compared. Assumes nothing.
use Rattle.std.specs.Prelude.{◌≡◌, ℕ, ◌+◌, ◌-◌, ◌*◌, ◌^◌, ◌≤◌, ◌<◌, pos, nat_abs, ◌-ℤ◌}
use Rattle.integers.specs.Matrix.{Matrix}
use Rattle.integers.specs.Within.{Within}
use Rattle.integers.specs.Sum.{total}
use Rattle.integers.specs.Square.{square}
use Rattle.accuracy.specs.Factorization.{Factorization}

-- the square of the length of column j: the sum of the squares of its 16 words
abbrev pub squared_length : Matrix → ℕ → ℕ
squared_length m j = total 16 (λ k. square (m k j))

-- of an input a and its R. One step of the input is 2^13 in R, and so 2^26 in a square
pub record Lengths (a r : Matrix) : Type 0 where
  -- the squared length of each column of R lies within 2^44 of 2^26 times that of the input's
  pub column : (j : ℕ) → j < 16 → Within (pos (squared_length r j) -ℤ pos (2 ^ 26 * squared_length a j)) (2 ^ 44)
  -- R's diagonal word 0, which is not negative, is the length of R's first column, since only zeros stand under it
  pub first-length : squared_length r 0 ≡ square (r 0 0)
  -- so its square lies within 2^44 of 2^26 times the squared length of the input's first column
  pub first-square : Within (pos (square (r 0 0)) -ℤ pos (2 ^ 26 * squared_length a 0)) (2 ^ 44)
  -- and 2^13 times the length itself lies between the word minus 2^22 (0 if that is negative) and the word plus 2^22
  pub first_least : (nat_abs (r 0 0) - 2 ^ 22) * (nat_abs (r 0 0) - 2 ^ 22) ≤ 2 ^ 26 * squared_length a 0
  pub first-most : 2 ^ 26 * squared_length a 0 ≤ (nat_abs (r 0 0) + 2 ^ 22) * (nat_abs (r 0 0) + 2 ^ 22)

-- they are those of the input wherever demand 3 speaks of a matrix worked to the end
abbrev pub LengthsKept : Type 0
LengthsKept = (a r q : Matrix) → Factorization a r q → Lengths a r
