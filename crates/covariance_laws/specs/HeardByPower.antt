-- Document 02, U2 and U3: which antennas are heard in the record that is written of any list of snapshots, refused ones among them. Antenna k is heard
-- exactly if the mean of x^2 + y^2 over its samples x + y i, which is its power, is at least 17 * 65,536 = 1,114,112. Assumes nothing.
use Rattle.std.specs.Prelude.{◌≡◌, List, ℕ, ◌+◌, ◌*◌, ◌<◌, leb}
use Rattle.integers.specs.Square.{square}
use Rattle.integers.specs.Sum.{total}
use Rattle.matrix_record.specs.MatrixRecord.{antenna_heard_of}
use Rattle.covariance.specs.declared.Sample.{Sample}
use Rattle.covariance.specs.WriteMatrix.{write_of}
use Rattle.covariance_laws.specs.Snapshots.{sample_at, Parts16, sums_after}
use Rattle.covariance_laws.specs.Accumulated.{added_of}
use Rattle.covariance_laws.specs.WrittenMatrix.{record_written}

-- the sum of x^2 + y^2 over antenna k's samples in the snapshots that are added up
abbrev pub power_of : List (List Sample) → ℕ → ℕ
power_of snapshots k = total (added_of snapshots) (λ n. square (sample_at snapshots n k).re + square (sample_at snapshots n k).im)

abbrev pub HeardByPower : Type 0
HeardByPower =
    (snapshots : List (List Sample)) (buffer : List ℕ) → Parts16 snapshots → (write_of (sums_after snapshots) buffer).number ≡ 0
    → (k : ℕ) → k < 8 → antenna_heard_of (record_written (sums_after snapshots) buffer) k ≡ leb (1114112 * added_of snapshots) (power_of snapshots k)
