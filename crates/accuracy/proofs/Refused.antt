-- A refused call changes nothing. Assumes nothing.
use mathlib.Core.Path.{◌≡◌, refl}
use Rattle.engine.specs.Run.{run_of}
use Rattle.accuracy.specs.Demand3.{Call, run, fetch, State, words_of, refusal, Accepted, moved, after}
use Rattle.accuracy.proofs.Demand3.{run_cases, left_same}

pub refused-stays : (s : State) (c : Call) → (Accepted s c → ⊥) → after s c ≡ s
unfolding run_of
refused-stays s (fetch f) n = refl
refused-stays s (run r) n =
    run_cases (refusal s (run r)) r.job r.budget (words_of s r.lent) (λ k o. (k ≡ 0 → ⊥) → moved s r o ≡ s)
    (λ m q i. record { workspace = left_same s r.lent i; job = s.job; granted = s.granted }) (λ q. absurd (q refl)) n
