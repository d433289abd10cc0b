-- The components answered are what the rows have, and nothing else is. Assumes nothing.
use mathlib.Core.Path.{◌≡◌, sym, ◌∙◌}
use mathlib.Core.List.{List}
use Prim.Native.Nat.{ℕ}
use Rattle.result_record.specs.ResultRecord.{record_r, record_q}
use Rattle.covariance.specs.declared.Sample.{Sample}
use Rattle.weights.specs.Solution.{target_part_of}
use Rattle.weights.specs.Weights.{weights_of}
use Rattle.weights_laws.specs.Replies.{component_at}
use Rattle.weights_laws.specs.Solved.{SolvesRows, Solved}
use Rattle.weights_laws.proofs.Answers.{number_is, solution_of, solved_component}
use Rattle.weights_laws.proofs.Rows.{component_same, each_row, same_rows}

rows_solved : (rec : List ℕ) (targets : List Sample) → (weights_of rec targets).number ≡ 0 → SolvesRows rec targets (component_at rec targets)
rows_solved rec targets e i h =
    let is = solved_component rec targets (sym (number_is rec targets) ∙ e) in
    is i h ∙ each_row (record_r rec) (record_q rec) (target_part_of targets) i h
    ∙ component_same (record_r rec) (record_q rec) (target_part_of targets) (solution_of rec targets) (component_at rec targets) i h (λ j a b. sym (is j b))

pub solved : Solved
solved = record {
  rows = rows_solved;
  only = λ rec targets e x f. same_rows (record_r rec) (record_q rec) (target_part_of targets) x (component_at rec targets) f (rows_solved rec targets e);
}
