-- Demand 3 on Q and R, with the columns of R (document 02, U6): the matrix is worked to the end. Document 01: entry (i, j) of Q times R is the sum of Q (i, k)
-- times R (k, j) over k from 0 to 15, and the sum of products of rows i and j of Q is that of Q (i, k) times Q (j, k). Assumes nothing.
use Rattle.std.specs.Prelude.{◌≡◌, cond, ℕ, ◌^◌, ◌<◌, eqb, ℤ, pos, ◌-ℤ◌, ◌*ℤ◌, ◌≤ℤ◌}
use Rattle.integers.specs.Matrix.{Matrix}
use Rattle.integers.specs.Within.{Within}
use Rattle.integers.specs.Sum.{sum}

-- the Gram sum of columns i and j: the sum of their products over the 16 rows. Of a column with itself it is the square of its length, and with the lengths it
-- gives the angle between two columns
abbrev pub gram : Matrix → ℕ → ℕ → ℤ
gram m i j = sum 16 (λ k. m k i *ℤ m k j)

-- the limit: no sum of a matrix worked to the end lies farther from where it should be
abbrev pub error_limit : ℕ
error_limit = 2 ^ 44

-- how far entry (i, j) of Q times R lies from 2^43 times the entry of the input made real
abbrev pub product_error : Matrix → Matrix → Matrix → ℕ → ℕ → ℤ
product_error a r q i j = sum 16 (λ k. q i k *ℤ r k j) -ℤ pos (2 ^ 43) *ℤ a i j

-- how far the sum of products of rows i and j of Q lies from 2^60 where i equals j, and from 0 where it doesn't
abbrev pub rows_error : Matrix → ℕ → ℕ → ℤ
rows_error q i j = sum 16 (λ k. q i k *ℤ q j k) -ℤ cond (eqb i j) (pos (2 ^ 60)) (pos 0)

-- how far the sum of products of columns i and j of R lies from 2^26 times the same sum over the input made real
abbrev pub columns_error : Matrix → Matrix → ℕ → ℕ → ℤ
columns_error a r i j = gram r i j -ℤ pos (2 ^ 26) *ℤ gram a i j

-- the matrix a is worked to the end as q times r. The bounds are for every i and j from 0 to 15, and sums are exact
pub record Factorization (a r q : Matrix) : Type 0 where
  -- R is upper triangular with its first fifteen diagonal words not negative
  pub triangular : (i j : ℕ) → j < i → i < 16 → r i j ≡ pos 0
  pub diagonal : (j : ℕ) → j < 15 → pos 0 ≤ℤ r j j
  -- every entry of Q times R lies within 2^44 of 2^43 times the entry of the input made real
  pub product : (i j : ℕ) → i < 16 → j < 16 → Within (product_error a r q i j) error_limit
  -- the sum of products of rows i and j of Q lies within 2^44 of 2^60 where i equals j and of 0 where it doesn't
  pub orthogonal : (i j : ℕ) → i < 16 → j < 16 → Within (rows_error q i j) error_limit
  -- the sum of products of columns i and j of R lies within 2^44 of 2^26 times the same sum over the input made real
  pub columns : (i j : ℕ) → i < 16 → j < 16 → Within (columns_error a r i j) error_limit
