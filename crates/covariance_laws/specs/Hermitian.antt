-- Document 02, U2: "For sums added up from none, element (j, i) is proved the conjugate of (i, j)": in the record that is written of any list of snapshots,
-- refused ones among them. Its elements are the quotients of the sums, and on the diagonal the imaginary part is 0 and the real part is 0 or more.
-- Assumes nothing.
use Rattle.std.specs.Prelude.{◌≡◌, List, ℕ, ◌+◌, ◌*◌, ◌<◌, pos, neg_ℤ, ◌≤ℤ◌}
use Rattle.integers.specs.Sum.{sum}
use Rattle.matrix_record.specs.MatrixRecord.{part_of}
use Rattle.covariance.specs.declared.Sample.{Sample}
use Rattle.covariance.specs.WriteMatrix.{normalized, write_of}
use Rattle.covariance_laws.specs.Snapshots.{Parts16, term_at, sums_after}
use Rattle.covariance_laws.specs.Accumulated.{added_of}
use Rattle.covariance_laws.specs.WrittenMatrix.{record_written}

-- what holds of the record that is written of a list of snapshots
pub record Hermitian (snapshots : List (List Sample)) (buffer : List ℕ) : Type 0 where
  pub elements : (i j q : ℕ) → i < 8 → j < 8 → q < 2
      → part_of (record_written (sums_after snapshots) buffer) (8 * i + j) q ≡ normalized (added_of snapshots) (sum (added_of snapshots) (term_at snapshots i j q))
  pub real : (i j : ℕ) → i < 8 → j < 8
      → part_of (record_written (sums_after snapshots) buffer) (8 * j + i) 0 ≡ part_of (record_written (sums_after snapshots) buffer) (8 * i + j) 0
  pub imaginary : (i j : ℕ) → i < 8 → j < 8
      → part_of (record_written (sums_after snapshots) buffer) (8 * j + i) 1 ≡ neg_ℤ (part_of (record_written (sums_after snapshots) buffer) (8 * i + j) 1)
  pub diagonal-imaginary : (i : ℕ) → i < 8 → part_of (record_written (sums_after snapshots) buffer) (8 * i + i) 1 ≡ pos 0
  pub diagonal-real : (i : ℕ) → i < 8 → pos 0 ≤ℤ part_of (record_written (sums_after snapshots) buffer) (8 * i + i) 0

abbrev pub AllHermitian : Type 0
AllHermitian = (snapshots : List (List Sample)) (buffer : List ℕ) → Parts16 snapshots → (write_of (sums_after snapshots) buffer).number ≡ 0 → Hermitian snapshots buffer
