-- Which records are accepted, what a refusal answers, and what the call makes of what an accepted Fetch wrote. Assumes nothing.
use mathlib.Core.Path.{◌≡◌, refl, sym, ap, ◌∙◌}
use mathlib.Core.Bool.{Bool, true, false}
use mathlib.Core.Logic.{◌↔◌, ◌⊎◌, inl, inr}
use mathlib.Core.List.{List}
use Prim.Native.Nat.{ℕ}
use lib.IntN.{ℤ, nat_abs}
use lib.ListN.{take}
use Rattle.integers.proofs.Laws.{abs-zero}
use Rattle.refusals.specs.Refusals.{fails_unless}
use Rattle.refusals.proofs.Refusals.{first_is}
use Rattle.result_record.specs.ResultRecord.{result_record_of, record_r, record_refusal_of}
use Rattle.result_record.proofs.Accepted.{record-passes}
use Rattle.covariance.specs.declared.Sample.{Sample}
use Rattle.workspace.specs.Workspace.{R, Q}
use Rattle.workspace.proofs.Filled.{written_r}
use Rattle.engine.specs.declared.job.Job.{Job}
use Rattle.engine.specs.Fetch.{fetch_refusal_of, fetch_of}
use Rattle.engine.proofs.Accepted.{fetch_accepted, read-accepted}
use Rattle.engine_laws.specs.RoundTrip.{Words32}
use Rattle.engine_laws.proofs.RoundTrip.{written-accepted, written_is}
use Rattle.weights.specs.Weights.{diagonal_nonzero_of, weights_refusal_of, weights_of}
use Rattle.weights_laws.specs.Weighable.{NoZero, Weighable}
use Rattle.weights_laws.proofs.Answers.{number_is, refused_weight, nonzero_if, passed_record, passed_diagonal}

-- ---- any record

module _ (rec : List ℕ) where
  passes : record_refusal_of rec ≡ 0 → NoZero (record_r rec) → weights_refusal_of rec ≡ 0
  unfolding weights_refusal_of
  passes e f = rw (e, nonzero_if (record_r rec) (λ i h z. f i h (abs-zero (record_r rec i i) z)))

  no_zero : weights_refusal_of rec ≡ 0 → NoZero (record_r rec)
  no_zero e i h z = passed_diagonal rec e i h (ap nat_abs z)

  of_diagonal : record_refusal_of rec ≡ 0 → (weights_refusal_of rec ≡ 0) ⊎ (weights_refusal_of rec ≡ 11)
  unfolding weights_refusal_of
  of_diagonal e = rw e (go (diagonal_nonzero_of (record_r rec)))
    where
      go : (t : Bool) → (fails_unless t 11 ≡ 0) ⊎ (fails_unless t 11 ≡ 11)
      go true = inl refl
      go false = inr refl

  of_record : (record_refusal_of rec ≡ 0 → ⊥) → weights_refusal_of rec ≡ record_refusal_of rec
  unfolding weights_refusal_of
  of_record f = sym (first_is (record_refusal_of rec) _ f)

weighable_iff : (rec : List ℕ) (targets : List Sample) → ((weights_of rec targets).number ≡ 0) ↔ ((record_refusal_of rec ≡ 0) × NoZero (record_r rec))
weighable_iff rec targets =
    (λ e. let z = sym (number_is rec targets) ∙ e in (passed_record rec z, no_zero rec z), λ h. number_is rec targets ∙ passes rec h.0 h.1)

zero_diagonal_lem : (rec : List ℕ) (targets : List Sample) → record_refusal_of rec ≡ 0 → ((weights_of rec targets).number ≡ 0) ⊎ ((weights_of rec targets).number ≡ 11)
zero_diagonal_lem rec targets e = rw (number_is rec targets) (of_diagonal rec e)

-- ---- what an accepted Fetch writes

module _ (job : Job) (l : List ℤ) (buffer : List ℕ) (targets : List Sample) (fits : Words32 l) (t : fetch_refusal_of job l buffer ≡ 0) where
  written-passes : record_refusal_of (result_record_of (R l) (Q l)) ≡ 0
  written-passes =
      let s = read-accepted (result_record_of (R l) (Q l)) l (written-accepted job l buffer fits t l (fetch_accepted job l buffer t).room) in
      record-passes (result_record_of (R l) (Q l)) (record { header = s.header; finished = s.finished })

  fetched_iff : ((weights_of (take 2049 (fetch_of job l buffer).buffer) targets).number ≡ 0) ↔ NoZero (R l)
  fetched_iff =
      let a = weighable_iff (result_record_of (R l) (Q l)) targets in
      rw (written_is job l buffer fits t)
      (λ e i h z. (a.0 e).1 i h (written_r l fits i i h h ∙ z), λ f. a.1 (written-passes, λ i h z. f i h (sym (written_r l fits i i h h) ∙ z)))

  fetched-zero : let number = (weights_of (take 2049 (fetch_of job l buffer).buffer) targets).number in (number ≡ 0) ⊎ (number ≡ 11)
  fetched-zero = rw (written_is job l buffer fits t) (zero_diagonal_lem (result_record_of (R l) (Q l)) targets written-passes)

pub weighable : Weighable
weighable = record {
  weighable_iff = weighable_iff;
  zero_diagonal_lem = zero_diagonal_lem;
  no_record = λ rec targets f. number_is rec targets ∙ of_record rec f;
  nothing = λ rec targets f k h. refused_weight rec targets (λ e. f (number_is rec targets ∙ e)) k h;
  fetched_iff = fetched_iff;
  fetched-zero = fetched-zero;
}
