-- What R says of antennas, for those who use R without Q (document 02, U6). Column k of the complex matrix is antenna k's, and in the real one columns k and
-- 8 + k are. The product of two antennas, as complex columns, is the sum over the 8 rows of the conjugate of the one's element times the other's; with their
-- lengths it gives the angle between them. Assumes nothing.
use Rattle.std.specs.Prelude.{List, ℕ, ◌+◌, ◌*◌, ◌^◌, ◌<◌, ℤ, pos, ◌+ℤ◌, ◌-ℤ◌, ◌*ℤ◌}
use Rattle.integers.specs.Matrix.{Matrix}
use Rattle.integers.specs.Within.{Within}
use Rattle.integers.specs.Sum.{sum}
use Rattle.matrix_record.specs.MatrixRecord.{part_of, real_entry_of}
use Rattle.accuracy.specs.Factorization.{gram, Factorization}

-- the real and the imaginary part of antenna i's element in row k
abbrev pub re : List ℕ → ℕ → ℕ → ℤ
re rec k i = part_of rec (k * 8 + i) 0

abbrev pub im : List ℕ → ℕ → ℕ → ℤ
im rec k i = part_of rec (k * 8 + i) 1

-- the real and the imaginary part of the product of antennas i and j. In a row where their elements have the parts x, y and u, v they are x u + y v and x v - y u
abbrev pub real_product : List ℕ → ℕ → ℕ → ℤ
real_product rec i j = sum 8 (λ k. re rec k i *ℤ re rec k j +ℤ im rec k i *ℤ im rec k j)

abbrev pub imaginary_product : List ℕ → ℕ → ℕ → ℤ
imaginary_product rec i j = sum 8 (λ k. re rec k i *ℤ im rec k j -ℤ im rec k i *ℤ re rec k j)

-- of a matrix record and its R
pub record Antennas (rec : List ℕ) (r : Matrix) : Type 0 where
  -- the sum for columns i and j of R is the real part of the product of antennas i and j, times 2^26 and within 2^44
  pub real : (i j : ℕ) → i < 8 → j < 8 → Within (gram r i j -ℤ pos (2 ^ 26) *ℤ real_product rec i j) (2 ^ 44)
  -- and that for columns 8 + i and j its imaginary part
  pub imaginary : (i j : ℕ) → i < 8 → j < 8 → Within (gram r (8 + i) j -ℤ pos (2 ^ 26) *ℤ imaginary_product rec i j) (2 ^ 44)

-- wherever demand 3 speaks of a matrix worked to the end
abbrev pub AntennasKept : Type 0
AntennasKept = (rec : List ℕ) (r q : Matrix) → Factorization (real_entry_of rec) r q → Antennas rec r
