-- The premise of demand 3 can be met in every way in which the work may be spread over Runs, for every accepted Load: by Runs of any allowances, each
-- handed the job that the one before answered, and a Fetch handed the last one; and by any list that meets it, with refused calls put in. Assumes
-- nothing.
use Rattle.std.specs.Prelude.{◌≡◌, ◌↔◌, List, [], ◌∷◌, ◌++◌, ℕ, ◌≤◌, length}
use Rattle.lists.specs.Lists.{sum_of}
use Rattle.lists.specs.Histories.{after_all, Place}
use Rattle.schedule.specs.Schedule.{rotation_count}
use Rattle.result_record.specs.ResultRecord.{result_bytes}
use Rattle.accuracy.specs.Demand3.{loaded, RunCall, FetchCall, Call, run, fetch, State, Accepted, after, Load, start, found, EachInStep}

-- a Run, and a Fetch, that is lent the workspace that Load filled and handed the job that stands
abbrev pub next_run : State → ℕ → RunCall
next_run s budget = record { job = s.job; budget = budget; lent = loaded }

abbrev pub next_fetch : State → List ℕ → FetchCall
next_fetch s buffer = record { job = s.job; lent = loaded; buffer = buffer }

-- Runs with these allowances, one after the other
unfoldable pub instalments : State → List ℕ → List Call
instalments s [] = []
instalments s (budget ∷ budgets) = run (next_run s budget) ∷ instalments (after s (run (next_run s budget))) budgets

-- what they leave
abbrev pub after_instalments : Load → List ℕ → State
after_instalments l budgets = after_all after (start l) (instalments (start l) budgets)

-- the Runs after a Load, and then the Fetch
abbrev pub instalment_calls : Load → List ℕ → List ℕ → List Call
instalment_calls l budgets buffer = instalments (start l) budgets ++ fetch (next_fetch (after_instalments l budgets) buffer) ∷ []

pub record InInstalments (l : Load) (budgets buffer : List ℕ) : Type 0 where
  -- the list meets the premise
  pub in_step : EachInStep l (instalment_calls l budgets buffer)
  -- each of its Runs is accepted
  pub runs-accepted : (r : RunCall) (p : Place (run r) (instalment_calls l budgets buffer)) → Accepted (found l p) (run r)
  -- the Fetch is accepted exactly when the allowances make 120 or more and its buffer has 2,049 bytes or more
  pub fetch_accepted : Accepted (after_instalments l budgets) (fetch (next_fetch (after_instalments l budgets) buffer))
      ↔ ((rotation_count ≤ sum_of budgets) × (result_bytes ≤ length buffer))

abbrev pub InstalmentsPossible : Type 0
InstalmentsPossible = (l : Load) (budgets buffer : List ℕ) → InInstalments l budgets buffer

-- a refused call may be put anywhere into a list that meets the premise: the list still meets it, and leaves the same state
abbrev pub RefusedAnywhere : Type 0
RefusedAnywhere = (l : Load) (a b : List Call) (c : Call) → EachInStep l (a ++ b) → (Accepted (after_all after (start l) a) c → ⊥)
    → EachInStep l (a ++ c ∷ b) × (after_all after (start l) (a ++ c ∷ b) ≡ after_all after (start l) (a ++ b))
