-- Document 02, U2: writing the matrix record of the sums, what it answers and what it leaves in the buffer, on all inputs. Assumes nothing.
use Rattle.std.specs.Prelude.{ℕ, zero, suc, ◌+◌, ◌*◌, cond, List, eqb, ℤ, pos}
use Rattle.std.specs.Int.Signed.{lt_z, quot_z}
use Rattle.lists.specs.Lists.{filled}
use Rattle.refusals.specs.Refusals.{first, fails_if, buffer_test, none_added}
use Rattle.matrix_record.specs.MatrixRecord.{matrix_bytes, matrix_byte}
use Rattle.covariance.specs.declared.Sums.{Sums}
use Rattle.covariance.specs.Sums.{sum_at, sums_test}

-- "divided by 65,536 times the count, toward zero, and clamped at 32,767". `quot_z` is the language's own division, which rounds toward zero
unfoldable pub normalized : ℕ → ℤ → ℤ
normalized count sum = let quotient = quot_z sum (pos (65536 * count)) in cond (lt_z (pos 32767) quotient) (pos 32767) quotient

-- part q of element e, the elements row by row
unfoldable pub element_part : ℕ → List ℤ → ℕ → ℕ → ℤ
element_part count words e q = normalized count (sum_at words (2 * e + q))

-- the number is all that writing answers
pub record WriteOutcome : Type 0 where
  pub number : ℕ
  pub buffer : List ℕ

-- 10, then 9: none added, then 7, "which here means under 257 bytes"
unfoldable pub write_refusal_of : ℕ → List ℤ → List ℕ → ℕ
write_refusal_of count words buffer = first (sums_test count words) (first (fails_if (eqb count 0) none_added) (buffer_test matrix_bytes buffer))

-- by that number. The first 257 bytes become the record, the rest is as before; a refusal changes nothing
unfoldable pub write_by : ℕ → Sums → List ℕ → WriteOutcome
write_by zero s buffer = record { number = 0; buffer = filled matrix_bytes (matrix_byte (element_part s.count s.words)) buffer }
write_by (suc n) s buffer = record { number = suc n; buffer = buffer }

unfoldable pub write_of : Sums → List ℕ → WriteOutcome
write_of s buffer = write_by (write_refusal_of s.count s.words buffer) s buffer
