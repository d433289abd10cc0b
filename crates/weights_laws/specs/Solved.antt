-- Document 02, U4: "the weights solve R times w = Q transposed times the target". Each component that is answered is what its row has from the others, and no
-- other numbers are that, so that the order in which the rows are worked does not show. Assumes nothing.
use Rattle.std.specs.Prelude.{◌≡◌, List, ℕ, ◌<◌, Float}
use Rattle.result_record.specs.ResultRecord.{record_r, record_q}
use Rattle.covariance.specs.declared.Sample.{Sample}
use Rattle.weights.specs.Solution.{target_part_of, row_component_of}
use Rattle.weights.specs.Weights.{weights_of}
use Rattle.weights_laws.specs.Replies.{component_at}

-- x is what the 16 rows have
abbrev pub SolvesRows : List ℕ → List Sample → (ℕ → Float) → Type 0
SolvesRows rec targets x = (i : ℕ) → i < 16 → x i ≡ row_component_of (record_r rec) (record_q rec) (target_part_of targets) x i

pub record Solved : Type 0 where
  pub rows : (rec : List ℕ) (targets : List Sample) → (weights_of rec targets).number ≡ 0 → SolvesRows rec targets (component_at rec targets)
  pub only : (rec : List ℕ) (targets : List Sample) → (weights_of rec targets).number ≡ 0 → (x : ℕ → Float) → SolvesRows rec targets x
      → (i : ℕ) → i < 16 → x i ≡ component_at rec targets i
