-- Document 02, U2: lists of snapshots, added up from none. Assumes nothing.
use Rattle.std.specs.Prelude.{List, [], ℕ, ℤ, get_or}
use Rattle.std.specs.Int.{w16}
use Rattle.std.proofs.Common.{SFits}
use Rattle.lists.specs.Histories.{after_all}
use Rattle.covariance.specs.declared.Sample.{Sample}
use Rattle.covariance.specs.declared.Sums.{Sums}
use Rattle.covariance.specs.Sums.{product_part, sample_of, sums_none_of}
use Rattle.covariance.specs.AddSnapshot.{add_of}

-- sample i of snapshot k
abbrev pub sample_at : List (List Sample) → ℕ → ℕ → Sample
sample_at snapshots k i = sample_of (get_or snapshots k []) i

-- "each part 16 bits": what a list of snapshots always is
abbrev pub Parts16 : List (List Sample) → Type 0
Parts16 snapshots = (k i : ℕ) → SFits w16 (sample_at snapshots k i).re × SFits w16 (sample_at snapshots k i).im

-- part q of sample i times the conjugate of sample j, in snapshot k
abbrev pub term_at : List (List Sample) → ℕ → ℕ → ℕ → ℕ → ℤ
term_at snapshots i j q k = product_part (sample_at snapshots k i) (sample_at snapshots k j) q

-- "sums added up from none": each call is handed the sums that the last one answered, a refused one too
unfoldable pub sums_after : List (List Sample) → Sums
sums_after snapshots = after_all (λ s snapshot. (add_of snapshot s).sums) sums_none_of snapshots
