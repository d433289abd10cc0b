-- Document 02, U13: "say yes exactly if the sums for Q times R and for the rows of Q lie within the mission's limits". What yes, no and a refusal say of any
-- two records. Assumes nothing.
use Rattle.std.specs.Prelude.{◌≡◌, ◌↔◌, List, ℕ, ◌<◌}
use Rattle.integers.specs.Matrix.{Matrix}
use Rattle.integers.specs.Within.{Within}
use Rattle.matrix_record.specs.MatrixRecord.{real_entry_of, matrix_refusal}
use Rattle.result_record.specs.ResultRecord.{record_r, record_q, record_refusal_of}
use Rattle.accuracy.specs.Factorization.{error_limit, product_error, rows_error, columns_error, Factorization}
use Rattle.verify.specs.Verify.{verify_refusal_of, verdict_of}

-- the two answers
abbrev pub Yes : List ℕ → List ℕ → Type 0
Yes matrix result = verdict_of matrix result ≡ record { number = 0; yes = 1 }

abbrev pub No : List ℕ → List ℕ → Type 0
No matrix result = verdict_of matrix result ≡ record { number = 0; yes = 0 }

-- the clauses product and orthogonal of `Factorization`
pub record Factors (a r q : Matrix) : Type 0 where
  pub product : (i j : ℕ) → i < 16 → j < 16 → Within (product_error a r q i j) error_limit
  pub orthogonal : (i j : ℕ) → i < 16 → j < 16 → Within (rows_error q i j) error_limit

-- its clause columns, which is U6's
abbrev pub Columns : Matrix → Matrix → Type 0
Columns a r = (i j : ℕ) → i < 16 → j < 16 → Within (columns_error a r i j) error_limit

pub record Answers (matrix result : List ℕ) : Type 0 where
  -- yes exactly if no test fails and both clauses hold
  pub yes : Yes matrix result ↔ ((verify_refusal_of matrix result ≡ 0) × Factors (real_entry_of matrix) (record_r result) (record_q result))
  -- no exactly if no test fails and they do not both hold
  pub no : No matrix result ↔ ((verify_refusal_of matrix result ≡ 0) × (Factors (real_entry_of matrix) (record_r result) (record_q result) → ⊥))
  -- a refusal is neither: it answers the number of the first test that fails, and yes 0
  pub refused : (verify_refusal_of matrix result ≡ 0 → ⊥) → verdict_of matrix result ≡ record { number = verify_refusal_of matrix result; yes = 0 }
  -- which is the matrix's, whatever the result is, or the result's
  pub matrix-first : (matrix_refusal matrix ≡ 0 → ⊥) → verify_refusal_of matrix result ≡ matrix_refusal matrix
  pub result-next : matrix_refusal matrix ≡ 0 → verify_refusal_of matrix result ≡ record_refusal_of result
  -- triangular and diagonal come from test 8, so a yes lacks nothing of `Factorization` but the clause columns
  pub but_columns : Yes matrix result → Columns (real_entry_of matrix) (record_r result) → Factorization (real_entry_of matrix) (record_r result) (record_q result)
  -- and a result that has all of it gets yes, where the tests are passed
  pub factorization : verify_refusal_of matrix result ≡ 0 → Factorization (real_entry_of matrix) (record_r result) (record_q result) → Yes matrix result

abbrev pub AnswersSay : Type 0
AnswersSay = (matrix result : List ℕ) → Answers matrix result
