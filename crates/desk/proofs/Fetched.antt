-- What the engine's Fetch answers, by the number of its tests. Assumes nothing.
use Rattle.std.proofs.Common.{◌≡◌, ℕ, zero, suc, List, refl, ap, sym, ◌∙◌}
use lib.IntN.{ℤ}
use Rattle.refusals.specs.declared.Refusal.{Refusal}
use Rattle.refusals.specs.Outcomes.{number_of}
use Rattle.refusals.proofs.Outcomes.{numbers_nonzero}
use Rattle.engine.specs.declared.job.Job.{Job}
use Rattle.engine.specs.Fetch.{FetchOutcome, fetch_refusal_of, fetch_by, fetch_of}

pub record Fetched (number : ℕ) (job : Job) (area : List ℤ) (buffer after : List ℕ) : Type 0 where
  pub tests : number ≡ fetch_refusal_of job area buffer
  pub written : after ≡ (fetch_by number area buffer).buffer

number_is : (n : ℕ) (area : List ℤ) (buffer : List ℕ) → (fetch_by n area buffer).number ≡ n
unfolding fetch_by
number_is zero area buffer = refl
number_is (suc n) area buffer = refl

pub fetched : (number : ℕ) (job : Job) (area : List ℤ) (buffer after : List ℕ) → ◌≡◌ {A = FetchOutcome} (record { number = number; buffer = after }) (fetch_of job area buffer) → Fetched number job area buffer after
unfolding fetch_of
fetched number job area buffer after o =
    let t : number ≡ fetch_refusal_of job area buffer = ap (λ (x : FetchOutcome). x.number) o ∙ number_is _ area buffer in
    record { tests = t; written = ap (λ (x : FetchOutcome). x.buffer) o ∙ ap (λ (n : ℕ). (fetch_by n area buffer).buffer) (sym t) }

unwritten : (n : ℕ) (area : List ℤ) (buffer : List ℕ) → (n ≡ 0 → ⊥) → (fetch_by n area buffer).buffer ≡ buffer
unfolding fetch_by
unwritten zero area buffer f = absurd (f refl)
unwritten (suc n) area buffer f = refl

pub refused_unwritten : (refusal : Refusal) (area : List ℤ) (buffer : List ℕ) → (fetch_by (number_of refusal) area buffer).buffer ≡ buffer
refused_unwritten refusal area buffer = unwritten (number_of refusal) area buffer (numbers_nonzero refusal)
