-- A refusal answers weights of +0.0, and else the rows are worked.
use Rattle.std.proofs.Common.{◌≡◌, refl, ◌∙◌, ℕ, zero, suc, List, Ok, Err, ℤ, pos}
use Rattle.std.proofs.lemmas.Result.{err_from_is_err_and}
use lib.Ieee.{Float}
use Rattle.lists.specs.Lists.{tabulate}
use Rattle.lists.proofs.Tabulate.{get_d_tabulate}
use Rattle.refusals.specs.declared.Refusal.{Refusal}
use Rattle.refusals.specs.Outcomes.{number_of}
use Rattle.refusals.proofs.Outcomes.{numbers_nonzero}
use Rattle.result_record.specs.ResultRecord.{record_r, record_q}
use Rattle.covariance.specs.declared.Sample.{Sample}
use Rattle.weights.specs.declared.Weight.{Weight}
use Rattle.weights.specs.Solution.{target_part_of, part_at, component_of, zero_float, worked_rows}
use Rattle.weights.specs.Weights.{weights_from, weights_refusal_of, weights_by, weights_of, weights_reply}
use Rattle.weights.proofs.Parts.{parts_same}
use Rattle.weights.proofs.weights.Goals as goal

by_number : (n : ℕ) (rec : List ℕ) (targets : List Sample) → (n ≡ 0 → ⊥) → record { number = n; weights = weights_from (λ j. zero_float) } ≡ weights_by n rec targets
unfolding weights_by
by_number zero rec targets f = absurd (f refl)
by_number (suc n) rec targets f = refl

refused : (refusal : Refusal) (rec : List ℕ) (targets : List Sample) → number_of refusal ≡ weights_refusal_of rec → weights_reply (Err refusal) ≡ weights_of rec targets
unfolding weights_of weights_reply
refused refusal rec targets e = rw (← e) (by_number (number_of refusal) rec targets (numbers_nonzero refusal))

pub returns-in_err-checked : goal.returns-in_err-checked
returns-in_err-checked c =
    let p = err_from_is_err_and c.from_residual.result c.from_residual.ensures.1 in
    rw (p.1, p.2) (refused _ _ _ c.in_err-checked.ensures.number)

-- the rows read the parts where `System::new` put them
worked : (rec : List ℕ) (targets : List Sample) {parts : List ℤ} {x : List Float} → parts ≡ tabulate 16 (target_part_of targets)
    → x ≡ worked_rows (record_r rec) (record_q rec) (part_at parts) 16 → x ≡ worked_rows (record_r rec) (record_q rec) (target_part_of targets) 16
worked rec targets p e =
    rw (e, p)
    (parts_same (record_r rec) (record_q rec) (part_at (tabulate 16 (target_part_of targets))) (target_part_of targets) (λ j h. get_d_tabulate 16 (target_part_of targets) (pos 0) j h) 16)

answered : (rec : List ℕ) (targets : List Sample) {x : List Float} {weights : List Weight} → 0 ≡ weights_refusal_of rec → weights ≡ weights_from (component_of x)
    → x ≡ worked_rows (record_r rec) (record_q rec) (target_part_of targets) 16 → weights_reply (Ok weights) ≡ weights_of rec targets
unfolding weights_of weights_by weights_reply
answered rec targets e f g = rw (← e, f, g)

pub returns : goal.returns
returns c =
    let checked = c.in_ok-checked.ensures in
    let same = c.new.ensures.bytes ∙ checked.same in
    let x = worked c.args.bytes.now c.args.targets c.new.ensures.parts (rw same at c.solution-x.ensures) in
    answered c.args.bytes.now c.args.targets checked.number c.all_weights.ensures x
