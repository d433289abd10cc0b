-- Document 02, U2: what the calls make of any list of snapshots, those after the 4,096th, which are refused, among them. The count is the smaller of the
-- list's length and 4,096, each sum is that over so many snapshots, adding is refused exactly after the 4,096th, and writing is refused exactly where no
-- snapshot was added or the buffer is short. Assumes nothing.
use Rattle.std.specs.Prelude.{◌≡◌, List, ℕ, ◌+◌, ◌*◌, ◌<◌, min, leb, eqb, length}
use Rattle.integers.specs.Sum.{sum}
use Rattle.refusals.specs.Refusals.{first, fails_if, buffer_test, none_added, sums_out_of_range}
use Rattle.matrix_record.specs.MatrixRecord.{matrix_bytes}
use Rattle.covariance.specs.declared.Sample.{Sample}
use Rattle.covariance.specs.Sums.{snapshot_limit, sum_at}
use Rattle.covariance.specs.AddSnapshot.{add_of}
use Rattle.covariance.specs.WriteMatrix.{write_of}
use Rattle.covariance_laws.specs.Snapshots.{Parts16, term_at, sums_after}

-- how many snapshots of a list are added up
abbrev pub added_of : List (List Sample) → ℕ
added_of snapshots = min (length snapshots) snapshot_limit

pub record Accumulated (snapshots : List (List Sample)) : Type 0 where
  pub count : (sums_after snapshots).count ≡ added_of snapshots
  -- part q of element (i, j)
  pub sums : (i j q : ℕ) → i < 8 → j < 8 → q < 2
      → sum_at (sums_after snapshots).words (2 * (8 * i + j) + q) ≡ sum (added_of snapshots) (term_at snapshots i j q)
  -- the number that one snapshot more is answered
  pub next : (snapshot : List Sample) → (add_of snapshot (sums_after snapshots)).number ≡ fails_if (leb snapshot_limit (length snapshots)) sums_out_of_range
  pub write : (buffer : List ℕ)
      → (write_of (sums_after snapshots) buffer).number ≡ first (fails_if (eqb (length snapshots) 0) none_added) (buffer_test matrix_bytes buffer)

abbrev pub AllAccumulated : Type 0
AllAccumulated = (snapshots : List (List Sample)) → Parts16 snapshots → Accumulated snapshots
