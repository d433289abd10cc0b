-- Runs of any allowances in step and a Fetch meet the premise of demand 3, and refused calls may stand anywhere. Assumes nothing.
use mathlib.Core.Path.{◌≡◌, refl, sym, ap, subst}
use mathlib.Core.Logic.{◌↔◌}
use mathlib.Core.List.{List, [], ◌∷◌, ◌++◌}
use Prim.Native.Nat.{ℕ, ◌+◌, ◌≤◌, min}
use native.Mathlib.Omega.{arith}
use lib.ListN.{length}
use Rattle.lists.specs.Lists.{sum_of}
use Rattle.lists.specs.Histories.{after_all, Each}
use Rattle.lists.proofs.Histories.{Along, each_of, along_of}
use Rattle.engine.specs.Run.{run_done, run_by, run_of}
use Rattle.engine.proofs.Accepted.{run_passes}
use Rattle.accuracy.specs.Demand3.{Call, run, fetch, State, Accepted, InStep, after, Load, start, EachInStep}
use Rattle.accuracy.specs.Instalments.{next_run, next_fetch, instalments, after_instalments, instalment_calls, InstalmentsPossible, RefusedAnywhere}
use Rattle.accuracy.proofs.WorkspaceAfter.{after-length, made_le}
use Rattle.accuracy.proofs.Start.{first, start_is}
use Rattle.accuracy.proofs.Demand3.{room, Standing, standing-start, standing-next, fetch_iff}
use Rattle.accuracy.proofs.Refused.{refused-stays}
use Rattle.accuracy.proofs.Possible.{Stepping}

-- ---- Runs in step

-- a call in step, which is accepted if it is a Run
unfoldable Taken : State → Call → Type 0
Taken s (run r) = Accepted s (run r) × InStep s (run r)
Taken s (fetch f) = InStep s (fetch f)

taken_in_step : (s : State) (c : Call) → Taken s c → InStep s c
unfolding Taken
taken_in_step s (run r) t = t.1
taken_in_step s (fetch f) t = t

module _ (l : Load) where
  -- a Run in step
  module _ (s : State) (h : Standing l s) (budget : ℕ) where
    run_taken : Accepted s (run (next_run s budget))
    run_taken = run_passes s.job s.workspace (record {
      room = rw h.workspace (omega (arith, after-length (first l) (room l) (min 120 s.granted) (omega arith), room l));
      possible = record { turn = omega (arith, h.turn); made = omega (arith, h.turn, h.made, made_le (first l) (room l) (min 120 s.granted)) };
    })

    next-standing : Standing l (after s (run (next_run s budget)))
    next-standing = standing-next l s (run (next_run s budget)) h (λ z. (refl, refl))

    next-granted : (after s (run (next_run s budget))).granted ≡ s.granted + budget
    unfolding run_of run_by run_done
    next-granted = rw run_taken

  -- Runs in step, and what follows
  goes : (s : State) → Standing l s → (budgets : List ℕ) (rest : List Call)
      → Along after Taken (after_all after s (instalments s budgets)) rest → Along after Taken s (instalments s budgets ++ rest)
  unfolding instalments Along after_all Taken
  goes s h [] rest a = a
  goes s h (b ∷ budgets) rest a =
      ((run_taken s h b, (refl, refl)), goes (after s (run (next_run s b))) (next-standing s h b) budgets rest a)

  -- the state after them
  record Ending (s : State) (granted : ℕ) : Type 0 where
    standing : Standing l s
    all : s.granted ≡ granted

  ends : (s : State) → Standing l s → (budgets : List ℕ) → Ending (after_all after s (instalments s budgets)) (s.granted + sum_of budgets)
  unfolding instalments after_all sum_of
  ends s h [] = record { standing = h; all = omega arith }
  ends s h (b ∷ budgets) =
      let n = ends (after s (run (next_run s b))) (next-standing s h b) budgets in
      record { standing = n.standing; all = omega (arith, n.all, next-granted s h b) }

  -- ---- from an accepted Load on, and a Fetch
  module _ (budgets buffer : List ℕ) where
    at_end : Ending (after_instalments l budgets) (sum_of budgets)
    at_end =
        let n = ends (start l) (standing-start l) budgets in
        let z : (start l).granted ≡ 0 = ap (λ (s : State). s.granted) (start_is l) in
        record { standing = n.standing; all = omega (arith, n.all, z) }

    all_taken : Each after Taken (start l) (instalment_calls l budgets buffer)
    unfolding Along Taken
    all_taken =
        each_of after Taken (start l) (instalment_calls l budgets buffer)
        (goes (start l) (standing-start l) budgets (fetch (next_fetch (after_instalments l budgets) buffer) ∷ []) ((refl, refl), tt))

    last_accepted : Accepted (after_instalments l budgets) (fetch (next_fetch (after_instalments l budgets) buffer)) ↔ ((120 ≤ sum_of budgets) × (2049 ≤ length buffer))
    last_accepted =
        subst (λ (n : ℕ). Accepted (after_instalments l budgets) (fetch (next_fetch (after_instalments l budgets) buffer)) ↔ ((120 ≤ n) × (2049 ≤ length buffer))) at_end.all
        (fetch_iff l (after_instalments l budgets) at_end.standing (next_fetch (after_instalments l budgets) buffer) (refl, refl))

pub instalments_possible : InstalmentsPossible
unfolding EachInStep Taken
instalments_possible l budgets buffer = record {
  in_step = λ c p z. taken_in_step (after_all after (start l) p.before) c (all_taken l budgets buffer c p);
  runs-accepted = λ r p. (all_taken l budgets buffer (run r) p).0;
  fetch_accepted = last_accepted l budgets buffer;
}

-- ---- refused calls anywhere

module _ (b : List Call) (c : Call) where
  put_in : (s : State) (a : List Call) → (Accepted (after_all after s a) c → ⊥) → Along after Stepping s (a ++ b) → Along after Stepping s (a ++ c ∷ b)
  unfolding Along after_all
  put_in s [] n h = ((λ z. absurd (n z)), subst (λ (t : State). Along after Stepping t b) (sym (refused-stays s c n)) h)
  put_in s (x ∷ a) n h = (h.0, put_in (after s x) a n h.1)

  same_end : (s : State) (a : List Call) → (Accepted (after_all after s a) c → ⊥) → after_all after s (a ++ c ∷ b) ≡ after_all after s (a ++ b)
  unfolding after_all
  same_end s [] n = ap (λ (t : State). after_all after t b) (refused-stays s c n)
  same_end s (x ∷ a) n = same_end (after s x) a n

pub refused_anywhere : RefusedAnywhere
unfolding EachInStep
refused_anywhere l a b c each n =
    (each_of after Stepping (start l) (a ++ c ∷ b) (put_in b c (start l) a n (along_of after Stepping (start l) (a ++ b) each)), same_end b c (start l) a n)
