-- Document 02, U4: "the weights solve R times w = Q transposed times the target", in 16 real parts. `binary64` is the format of 64-bit floats, and each of
-- `of_int`, `sub`, `mul` and `div` is one operation of IEEE 754, with its one rounding, as the logic has it. Assumes nothing.
use Rattle.std.specs.Prelude.{ℕ, zero, suc, ◌+◌, ◌-◌, false, cond, List, ltb, Float, ℤ, pos, ◌*ℤ◌, get_or, set, replicate}
use Rattle.std.specs.Float.{nan, fin, binary64}
use Rattle.std.specs.Float.Ieee.{of_int, sub, mul, div}
use Rattle.integers.specs.Matrix.{Matrix}
use Rattle.integers.specs.Sum.{sum}
use Rattle.covariance.specs.declared.Sample.{Sample}
use Rattle.covariance.specs.Sums.{sample_of}

-- a whole number "made a float"
abbrev pub float : ℤ → Float
float z = of_int binary64 z

-- ---- the right-hand side

-- part j of the target, "real parts first, then imaginary"
unfoldable pub target_part_of : List Sample → ℕ → ℤ
target_part_of targets j = cond (ltb j 8) (sample_of targets j).re (sample_of targets (j - 8)).im

-- row i of Q transposed times the target, "formed exactly as a whole number"; t j is part j of the target
unfoldable pub right_sum_of : Matrix → (ℕ → ℤ) → ℕ → ℤ
right_sum_of q t i = sum 16 (λ j. q j i *ℤ t j)

-- "made a float and divided by 131,072"
unfoldable pub right_side_of : Matrix → (ℕ → ℤ) → ℕ → Float
right_side_of q t i = div binary64 (float (right_sum_of q t i)) (float (pos 131072))

-- ---- a row. "R's words enter as floats unscaled"; x j is component j

-- "takes off its products in rising column order": what is left of row i's right-hand side b without the products in the first n columns after the diagonal
unfoldable pub row_left_of : Matrix → (ℕ → Float) → ℕ → Float → ℕ → Float
row_left_of r x i b zero = b
row_left_of r x i b (suc n) = sub binary64 (row_left_of r x i b n) (mul binary64 (float (r i (i + 1 + n))) (x (i + 1 + n)))

-- "and divides by its diagonal": component i, as row i has it from those after it
unfoldable pub row_component_of : Matrix → Matrix → (ℕ → ℤ) → (ℕ → Float) → ℕ → Float
row_component_of r q t x i = div binary64 (row_left_of r x i (right_side_of q t i) (15 - i)) (float (r i i))

-- ---- all rows

-- component j of a list, and part j
abbrev pub component_of : List Float → ℕ → Float
component_of x j = get_or x j nan

abbrev pub part_at : List ℤ → ℕ → ℤ
part_at parts j = get_or parts j (pos 0)

-- +0.0
abbrev pub zero_float : Float
zero_float = fin false 0 (pos 0)

-- "worked from row 15 up": the 16 components when n rows are worked, 0 in those that are not
unfoldable pub worked_rows : Matrix → Matrix → (ℕ → ℤ) → ℕ → List Float
worked_rows r q t zero = replicate 16 zero_float
worked_rows r q t (suc n) = set (worked_rows r q t n) (15 - n) (row_component_of r q t (component_of (worked_rows r q t n)) (15 - n))
