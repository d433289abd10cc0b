-- Document 02, U13: what is answered to a matrix record and a result record, whoever wrote it, on all inputs. The limits are those of demand 3, by the
-- definitions that `Factorization` cites. Assumes nothing.
use Rattle.std.specs.Prelude.{ℕ, zero, suc, ◌/◌, ◌%◌, Bool, ◌&&◌, cond, List, Result, Ok, Err}
use Rattle.integers.specs.Matrix.{Matrix}
use Rattle.integers.specs.Within.{is_within}
use Rattle.lists.specs.Lists.{all_below}
use Rattle.refusals.specs.Refusals.{first}
use Rattle.refusals.specs.declared.Refusal.{Refusal}
use Rattle.refusals.specs.Outcomes.{number_of}
use Rattle.matrix_record.specs.MatrixRecord.{real_entry_of, matrix_refusal}
use Rattle.result_record.specs.ResultRecord.{record_r, record_q, record_refusal_of}
use Rattle.accuracy.specs.Factorization.{error_limit, product_error, rows_error}
use Rattle.verify.specs.declared.Verdict.{Verdict}

-- "the sums for Q times R and for the rows of Q lie within the mission's limits, over all 256 pairs of each": pair number p is row p / 16, column p % 16
unfoldable pub is_product : Matrix → Matrix → Matrix → Bool
is_product a r q = all_below 256 (λ p. is_within (product_error a r q (p / 16) (p % 16)) error_limit)

unfoldable pub is_orthogonal : Matrix → Bool
is_orthogonal q = all_below 256 (λ p. is_within (rows_error q (p / 16) (p % 16)) error_limit)

-- "Tests run 1, 2, 4 on the matrix, then 1, 2, 8 on the result"
unfoldable pub verify_refusal_of : List ℕ → List ℕ → ℕ
verify_refusal_of matrix result = first (matrix_refusal matrix) (record_refusal_of result)

-- by that number: yes, which is 1, exactly if both families of sums lie within the limits; a refusal is neither yes nor no and answers its number alone
unfoldable pub verdict_by : ℕ → Bool → Verdict
verdict_by zero within = record { number = 0; yes = cond within 1 0 }
verdict_by (suc n) within = record { number = suc n; yes = 0 }

unfoldable pub verdict_of : List ℕ → List ℕ → Verdict
verdict_of matrix result =
    verdict_by (verify_refusal_of matrix result) (is_product (real_entry_of matrix) (record_r result) (record_q result) && is_orthogonal (record_q result))

-- the verdict that is made of yes or no, or of a refusal
unfoldable pub verdict : Result Bool Refusal → Verdict
verdict (Ok within) = record { number = 0; yes = cond within 1 0 }
verdict (Err refusal) = record { number = number_of refusal; yes = 0 }
