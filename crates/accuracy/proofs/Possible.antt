-- The premise of demand 3 can be met: for every accepted record by a Run of 120 and a Fetch, which is accepted, with refused calls before, between and
-- after them; Whole accepts it too; and a record is accepted. Assumes nothing.
use mathlib.Core.Path.{◌≡◌, refl, sym, ap, ◌∙◌, subst}
use mathlib.Core.List.{List, [], ◌∷◌, ◌++◌, append-nil}
use Prim.Native.Nat.{ℕ, zero, suc, ◌≤◌, ◌<◌}
use native.Mathlib.Omega.{arith}
use lib.Dec.{lit<, lit≤}
use lib.IntN.{pos}
use lib.ListN.{length, get_or, replicate}
use Rattle.lists.specs.Histories.{after_all}
use Rattle.lists.proofs.Histories.{Along, each_of, Idle, idle_after}
use Rattle.refusals.specs.Refusals.{header_test}
use Rattle.matrix_record.specs.MatrixRecord.{part_of, antenna_heard_of, heard_below}
use Rattle.workspace.specs.Rotations.{words_after}
use Rattle.engine.specs.Load.{load_refusal_of}
use Rattle.engine.specs.Job.{loaded_job}
use Rattle.engine.specs.Run.{RunOutcome, next_job, run_done, run_by, run_of}
use Rattle.engine.specs.Whole.{whole_refusal_of}
use Rattle.engine.proofs.Accepted.{load-accepted, whole-passes, run_passes}
use Rattle.accuracy.specs.Demand3.{Call, run, fetch, State, reply, Accepted, InStep, moved, after, Load, start, EachInStep}
use Rattle.accuracy.specs.WholeDemand3.{whole_run, whole_fetch}
use Rattle.accuracy.proofs.Start.{first, start_is}
use Rattle.accuracy.proofs.Demand3.{room, Standing, standing-start, standing-next, fetch_iff}
use Rattle.accuracy.proofs.Refused.{refused-stays}
use Rattle.accuracy.proofs.Stray.{AllRefused}

-- ---- refused calls among others

-- the premise on a call
abbrev pub Stepping : State → Call → Type 0
Stepping s c = Accepted s c → InStep s c

idle : (s : State) (calls : List Call) → AllRefused s calls → Idle after s calls
unfolding AllRefused Idle
idle s [] r = tt
idle s (c ∷ calls) r = (refused-stays s c r.0, idle s calls r.1)

skip : (s : State) (calls rest : List Call) → AllRefused s calls → Along after Stepping s rest → Along after Stepping s (calls ++ rest)
unfolding AllRefused Along
skip s [] rest r a = a
skip s (c ∷ calls) rest r a =
    ((λ z. absurd (r.0 z)), subst (λ (t : State). Along after Stepping t (calls ++ rest)) (sym (refused-stays s c r.0)) (skip s calls rest r.1 a))

-- ---- a Run of 120 and a Fetch

-- the state after the Run
abbrev pub ended : Load → State
ended l = after (start l) (run whole_run)

module _ (l : Load) where
  run_in_step : InStep (start l) (run whole_run)
  run_in_step = (refl, sym (ap (λ (s : State). s.job) (start_is l)))

  ended_standing : Standing l (ended l)
  ended_standing = standing-next l (start l) (run whole_run) (standing-start l) (λ z. run_in_step)

  pub run_done_lem : run_of loaded_job 120 (first l) ≡ run_done loaded_job 120 (first l)
  unfolding run_of run_by
  run_done_lem = rw (run_passes loaded_job (first l) (record { room = room l; possible = record { turn = lit≤ tt; made = lit≤ tt } }))

  pub ended_is : ended l ≡ record { workspace = words_after 0 120 (first l); job = next_job loaded_job 120 (first l); granted = 120 }
  unfolding run_done
  ended_is =
      ap (λ (s : State). after s (run whole_run)) (start_is l)
      ∙ ap (λ (o : RunOutcome). moved (record { workspace = first l; job = loaded_job; granted = 0 }) whole_run o) run_done_lem

  ended_granted : (ended l).granted ≡ 120
  ended_granted = ap (λ (s : State). s.granted) ended_is

  -- what the Run answers is what stands after it
  answered : (reply (start l) whole_run).job ≡ (ended l).job
  unfolding run_done
  answered =
      ap (λ (s : State). (reply s whole_run).job) (start_is l)
      ∙ ap (λ (o : RunOutcome). o.reply.job) run_done_lem ∙ sym (ap (λ (s : State). s.job) ended_is)

  pub fetch_in_step : (buffer : List ℕ) → InStep (ended l) (fetch (whole_fetch l buffer))
  fetch_in_step buffer = (refl, answered)

  pub fetch_taken : (buffer : List ℕ) → 2049 ≤ length buffer → Accepted (ended l) (fetch (whole_fetch l buffer))
  fetch_taken buffer space = (fetch_iff l (ended l) ended_standing (whole_fetch l buffer) (fetch_in_step buffer)).1 (omega (arith, ended_granted), space)

-- the list meets the premise, and its Fetch is accepted
pub record Possible (l : Load) (a b c : List Call) (buffer : List ℕ) : Type 0 where
  pub in_step : EachInStep l (a ++ run whole_run ∷ (b ++ fetch (whole_fetch l buffer) ∷ c))
  pub accepted : Accepted (after_all after (start l) (a ++ run whole_run ∷ b)) (fetch (whole_fetch l buffer))

-- with any refused calls before, between and after the two
pub possible : (l : Load) (a b c : List Call) (buffer : List ℕ) → AllRefused (start l) a → AllRefused (ended l) b → AllRefused (ended l) c → 2049 ≤ length buffer → Possible l a b c buffer
unfolding EachInStep Along after_all
possible l a b c buffer ra rb rc space = record {
  in_step = each_of after Stepping (start l) (a ++ run whole_run ∷ (b ++ fetch (whole_fetch l buffer) ∷ c)) all;
  accepted = subst (λ (s : State). Accepted s (fetch (whole_fetch l buffer))) (sym there) (fetch_taken l buffer space);
}
  where
    last : Along after Stepping (ended l) c
    last = subst (Along after Stepping (ended l)) (append-nil c) (skip (ended l) c [] rc tt)

    all : Along after Stepping (start l) (a ++ run whole_run ∷ (b ++ fetch (whole_fetch l buffer) ∷ c))
    all = skip (start l) a (run whole_run ∷ (b ++ fetch (whole_fetch l buffer) ∷ c)) ra
        ((λ z. run_in_step l), skip (ended l) b (fetch (whole_fetch l buffer) ∷ c) rb ((λ z. fetch_in_step l buffer), last))

    there : after_all after (start l) (a ++ run whole_run ∷ b) ≡ ended l
    there = idle_after after (start l) a (run whole_run ∷ b) (idle (start l) a ra) ∙ ap (after_all after (ended l)) (sym (append-nil b)) ∙ idle_after after (ended l) b [] (idle (ended l) b rb)

-- and Whole accepts it, with the same buffer
pub whole_possible : (l : Load) (buffer : List ℕ) → 2049 ≤ length buffer → whole_refusal_of l.bytes l.lent buffer ≡ 0
whole_possible l buffer space = whole-passes l.bytes l.lent buffer (record { load = load-accepted l.bytes l.lent l.accepted; space = space })

-- ---- a record is accepted: the first antenna is heard, by 17, and all else is 0

zeros : (n k : ℕ) → ◌≡◌ {A = ℕ} (get_or (replicate n 0) k 0) 0
zeros zero k = refl
zeros (suc n) zero = refl
zeros (suc n) (suc k) = zeros n k

pub some_load : Load
unfolding load_refusal_of header_test heard_below antenna_heard_of part_of
some_load = record { bytes = 1 ∷ 0 ∷ 17 ∷ replicate 254 0; lent = replicate 512 (pos 0); small = small; accepted = refl }
  where
    small : (k : ℕ) → get_or (1 ∷ 0 ∷ 17 ∷ replicate 254 0) k 0 < 256
    small zero = lit< tt
    small (suc zero) = lit< tt
    small (suc (suc zero)) = lit< tt
    small (suc (suc (suc k))) = rw (zeros 254 k) (lit< tt)
