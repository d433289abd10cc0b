-- A matrix of whole numbers, one by its entries, and the test whether a number is zero. Assumes nothing.
use Rattle.std.specs.Prelude.{ℕ, Bool, cond, ◌&&◌, List, [], ◌∷◌, eqb, ℤ, pos, nat_abs}

-- row, then column
abbrev pub Matrix : Type 0
Matrix = ℕ → ℕ → ℤ

-- a word at a row and a column
pub data Entry : Type 0 where
  at : ℕ → ℕ → ℤ → Entry

-- one word all along the diagonal, and others where a list has them
unfoldable pub matrix_of : ℤ → List Entry → Matrix
matrix_of d [] i j = cond (eqb i j) d (pos 0)
matrix_of d (at row column word ∷ es) i j = cond (eqb i row && eqb j column) word (matrix_of d es i j)

abbrev pub is_zero : ℤ → Bool
is_zero z = eqb (nat_abs z) 0
