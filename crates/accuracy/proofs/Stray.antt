-- Refused calls of every kind. Assumes nothing.
use mathlib.Core.List.{List, [], ◌∷◌}
use native.Mathlib.Omega.{arith}
use lib.ListN.{replicate}
use Rattle.engine.specs.Job.{loaded_job}
use Rattle.engine.proofs.Accepted.{run_accepted, fetch_accepted}
use Rattle.accuracy.specs.Demand3.{loaded, other, Call, run, fetch, State, Accepted}

-- each call of the list is refused in the state s
unfoldable pub AllRefused : State → List Call → Type 0
AllRefused s [] = Unit {0}
AllRefused s (c ∷ calls) = (Accepted s c → ⊥) × AllRefused s calls

-- ---- refused calls: a Run past the last turn, a Run with more turns made than its turn number, a Run on a short workspace, a Fetch before the last turn,
-- a Fetch with more made than its turn number, a Fetch with a short buffer

unfoldable pub stray : List Call
stray =
    run (record { job = record { turn = 121; made = 0 }; budget = 7; lent = loaded })
    ∷ run (record { job = record { turn = 5; made = 6 }; budget = 7; lent = loaded })
    ∷ run (record { job = loaded_job; budget = 120; lent = other [] })
    ∷ fetch (record { job = record { turn = 119; made = 119 }; lent = loaded; buffer = replicate 2049 0 })
    ∷ fetch (record { job = record { turn = 120; made = 121 }; lent = loaded; buffer = replicate 2049 0 })
    ∷ fetch (record { job = record { turn = 120; made = 120 }; lent = loaded; buffer = [] })
    ∷ []

pub stray_refused : (s : State) → AllRefused s stray
unfolding AllRefused stray
stray_refused s = (
  (λ z. omega (arith, (run_accepted (record { turn = 121; made = 0 }) s.workspace z).possible.turn)),
  (
    (λ z. omega (arith, (run_accepted (record { turn = 5; made = 6 }) s.workspace z).possible.made)),
    (
      (λ z. omega (arith, (run_accepted loaded_job [] z).room)),
      (
        (λ z. omega (arith, (fetch_accepted (record { turn = 119; made = 119 }) s.workspace (replicate 2049 0) z).last)),
        (
          (λ z. omega (arith, (fetch_accepted (record { turn = 120; made = 121 }) s.workspace (replicate 2049 0) z).made)),
          ((λ z. omega (arith, (fetch_accepted (record { turn = 120; made = 120 }) s.workspace [] z).space)), tt),
        ),
      ),
    ),
  ),
)
