-- Document 02, U4: "11 a diagonal word is 0, after 1, 2 and 8 on the record". Which records are accepted, what a refusal answers besides its number, and that
-- of what an accepted Fetch writes none is refused by another number than 11. Assumes nothing.
use Rattle.std.specs.Prelude.{◌≡◌, ◌↔◌, ◌⊎◌, List, ℕ, ◌<◌, ℤ, pos, take}
use Rattle.integers.specs.Matrix.{Matrix}
use Rattle.result_record.specs.ResultRecord.{record_r, record_refusal_of}
use Rattle.covariance.specs.declared.Sample.{Sample}
use Rattle.workspace.specs.Workspace.{R}
use Rattle.engine.specs.declared.job.Job.{Job}
use Rattle.engine.specs.Fetch.{fetch_refusal_of, fetch_of}
use Rattle.engine_laws.specs.RoundTrip.{Words32}
use Rattle.weights.specs.Solution.{zero_float}
use Rattle.weights.specs.Weights.{weight_of, weights_of}
use Rattle.weights_laws.specs.Replies.{weight_at_of}

-- none of the 16 diagonal words is 0
abbrev pub NoZero : Matrix → Type 0
NoZero r = (i : ℕ) → i < 16 → r i i ≡ pos 0 → ⊥

pub record Weighable : Type 0 where
  -- exactly the records that pass tests 1, 2 and 8 and have no 0 on the diagonal
  pub weighable_iff : (rec : List ℕ) (targets : List Sample) → ((weights_of rec targets).number ≡ 0) ↔ ((record_refusal_of rec ≡ 0) × NoZero (record_r rec))
  -- the others that pass them are refused with 11, and what does not pass them is refused with their number
  pub zero_diagonal_lem : (rec : List ℕ) (targets : List Sample) → record_refusal_of rec ≡ 0 → ((weights_of rec targets).number ≡ 0) ⊎ ((weights_of rec targets).number ≡ 11)
  pub no_record : (rec : List ℕ) (targets : List Sample) → (record_refusal_of rec ≡ 0 → ⊥) → (weights_of rec targets).number ≡ record_refusal_of rec
  -- the weights of a refusal are +0.0
  pub nothing : (rec : List ℕ) (targets : List Sample) → ((weights_of rec targets).number ≡ 0 → ⊥) → (k : ℕ) → k < 8 → weight_at_of rec targets k ≡ weight_of (λ j. zero_float) k
  -- of what an accepted Fetch writes, exactly those results are accepted that have no 0 on R's diagonal, and the others are refused with 11
  pub fetched_iff : (job : Job) (l : List ℤ) (buffer : List ℕ) (targets : List Sample) → Words32 l → fetch_refusal_of job l buffer ≡ 0
      → ((weights_of (take 2049 (fetch_of job l buffer).buffer) targets).number ≡ 0) ↔ NoZero (R l)
  pub fetched-zero : (job : Job) (l : List ℤ) (buffer : List ℕ) (targets : List Sample) → Words32 l → fetch_refusal_of job l buffer ≡ 0
      → let number = (weights_of (take 2049 (fetch_of job l buffer).buffer) targets).number in (number ≡ 0) ⊎ (number ≡ 11)
