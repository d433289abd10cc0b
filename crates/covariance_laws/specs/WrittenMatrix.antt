-- Document 02, U2: the record that an accepted call writes, whatever sums it is handed. Its elements are the sums' quotients, Load's tests 1 and 2 are
-- passed, and no byte behind it is written. Assumes nothing.
use Rattle.std.specs.Prelude.{◌≡◌, List, ℕ, ◌+◌, ◌*◌, ◌<◌, ℤ, take, drop}
use Rattle.refusals.specs.Refusals.{first}
use Rattle.matrix_record.specs.MatrixRecord.{matrix_bytes, part_of, matrix_test}
use Rattle.workspace.specs.Workspace.{workspace_test}
use Rattle.engine.specs.Load.{load_refusal_of}
use Rattle.covariance.specs.declared.Sums.{Sums}
use Rattle.covariance.specs.Sums.{sum_at}
use Rattle.covariance.specs.WriteMatrix.{normalized, write_of}

-- the buffer's first 257 bytes
abbrev pub record_written : Sums → List ℕ → List ℕ
record_written s buffer = take matrix_bytes (write_of s buffer).buffer

pub record WrittenMatrix (s : Sums) (buffer : List ℕ) : Type 0 where
  -- part q of element (i, j)
  pub parts : (i j q : ℕ) → i < 8 → j < 8 → q < 2 → part_of (record_written s buffer) (8 * i + j) q ≡ normalized s.count (sum_at s.words (2 * (8 * i + j) + q))
  -- of Load's tests 1, 2, 3, 4 only 3 and 4 can fail
  pub load : (workspace : List ℤ) → load_refusal_of (record_written s buffer) workspace ≡ first (workspace_test workspace) (matrix_test (record_written s buffer))
  pub rest : drop matrix_bytes (write_of s buffer).buffer ≡ drop matrix_bytes buffer

abbrev pub AllWritten : Type 0
AllWritten = (s : Sums) (buffer : List ℕ) → (write_of s buffer).number ≡ 0 → WrittenMatrix s buffer
