-- A sector never loaded has the job (120, 0) and heard byte 0, and what its calls answer follows from that. Assumes nothing.
use mathlib.Core.Path.{◌≡◌, refl, sym, ap, ap₂, ◌∙◌, subst}
use mathlib.Core.Bool.{Bool, true, false, ◌&&◌, ◌||◌}
use mathlib.Core.List.{List, []}
use Prim.Native.Nat.{ℕ, zero, suc, ◌<◌}
use native.Mathlib.Omega.{arith}
use lib.IntN.{ℤ}
use lib.Dec.{T, ltb}
use lib.ListN.{get_or-replicate}
use Rattle.lists.proofs.Histories.{along_of}
use Rattle.refusals.proofs.Refusals.{first_alone}
use Rattle.refusals.specs.Refusals.{first, buffer_test}
use Rattle.result_record.specs.ResultRecord.{result_test}
use Rattle.workspace.specs.Workspace.{workspace_test, R}
use Rattle.engine.specs.declared.job.Job.{Job}
use Rattle.engine.specs.Job.{job_test}
use Rattle.engine.specs.Run.{RunOutcome, run_refusal_of, run_done}
use Rattle.engine.specs.Fetch.{fetch_refusal_of, fetch_by}
use Rattle.engine.proofs.Taken.{none_taken}
use Rattle.desk.proofs.Accepted.{finished-passes}
use Rattle.desk.specs.Desk.{unloaded_job}
use Rattle.desk.specs.Roles.{may_operate_of, may_fetch_of, role_test}
use Rattle.desk_laws.specs.Calls.{Lent, Call, run, fetch, new, lent_words, bare, answer, next, after, own, kind, NoLoad, EachNoLoad}
use Rattle.desk_laws.specs.Unloaded.{ran_nothing, NeverLoaded}
use Rattle.desk_laws.specs.Sectors.{ran_answer}
use Rattle.desk_laws.proofs.Seats.{Seat, seat, seat_must_wait, run_seat, run_number, fetch_number, seat_grant, no_grant, run_answer, fetch_answer, own_answer, own_kind, own_answer_lem, eight_after, eight_new}
use Rattle.desk_laws.proofs.Steady.{Any, Steady, steady_after}

record Empty (a : Seat) : Type 0 where
  job : a.job ≡ unloaded_job
  heard : a.heard ≡ 0
  waits : a.waits ≡ false

-- ---- its calls keep it so

ran-empty : (n request : ℕ) (a : Seat) (lent : Lent) → Empty a → Empty (run_seat n a (seat_grant a request) lent)
ran-empty zero request a lent e =
    let l = lent_words a.area lent in
    record {
      job = ap (λ (k : ℕ). (run_done a.job k l).reply.job) (no_grant a request (ap (λ (j : Job). j.turn) e.job)) ∙ ap (λ (o : RunOutcome). o.reply.job) (none_taken a.job l) ∙ e.job;
      heard = e.heard;
      waits = e.waits;
    }
ran-empty (suc n) request a lent e = e

-- nothing waits for it: its job is finished
never_waits : (a : Seat) → Empty a → seat_must_wait a ≡ true → ⊥
never_waits a e f = subst T (sym f ∙ ap₂ (λ (b : Bool) (j : Job). b || ltb j.turn 120) e.waits e.job) tt

empty_steady : Steady Any Empty
empty_steady = record {
  ran = ran-empty;
  kept = λ rec a f e. absurd (never_waits a e f);
  began = λ a q e. record { job = e.job; heard = e.heard; waits = e.waits };
  set = λ s a e. record { job = e.job; heard = e.heard; waits = e.waits };
}

module _ (i : ℕ) (small : i < 8) (areas : ℕ → List ℤ) where
  pub none-waits : (seat i (new areas)).waits ≡ false
  none-waits = ap (ltb 0) (get_or-replicate {A = ℕ} 8 i 0 0 small)

  empty-new : Empty (seat i (new areas))
  empty-new = record { job = get_or-replicate 8 i unloaded_job _ small; heard = get_or-replicate 8 i 0 _ small; waits = none-waits }

-- ---- what its calls answer

module _ (a : Seat) (e : Empty a) where
  run_refused : (role request : ℕ) (lent : Lent) → run_number role a request lent ≡ first (role_test (may_operate_of role)) (workspace_test (lent_words a.area lent))
  unfolding run_refusal_of job_test
  run_refused role request lent =
      let n = workspace_test (lent_words a.area lent) in
      rw (e.job, finished-passes unloaded_job a.left request (omega arith), first_alone (first n 0), first_alone n)

  fetch_refused : (role : ℕ) (buffer : List ℕ) (lent : Lent)
      → (let l = lent_words a.area lent in fetch_number role a buffer lent ≡ first (role_test (may_fetch_of role)) (first (workspace_test l) (first (buffer_test 2049 buffer) (result_test (R l)))))
  unfolding fetch_refusal_of job_test
  fetch_refused role buffer lent = rw e.job

  ran_nothing_lem : (request n : ℕ) (l : List ℤ) → run_answer n a.job (seat_grant a request) l ≡ ran_nothing n l
  unfolding run_done
  ran_nothing_lem request zero l =
      ap (λ (k : ℕ). ran_answer (run_done a.job k l)) (no_grant a request (ap (λ (j : Job). j.turn) e.job)) ∙ ap ran_answer (none_taken a.job l) ∙ ap (λ (j : Job). record { number = 0; heard = 0; job = j; count = 0; clamps-r = 0; clamps-q = 0; buffer = []; words = l }) e.job
  ran_nothing_lem request (suc n) l = refl

  fetched-nothing : (n : ℕ) (b : Bool) (l : List ℤ) (buffer : List ℕ) → fetch_answer n (b && a.waits) a.waiting l buffer ≡ bare n (fetch_by n l buffer).buffer l
  unfolding fetch_by
  fetched-nothing zero true l buffer = rw e.waits
  fetched-nothing zero false l buffer = refl
  fetched-nothing (suc n) b l buffer = refl

pub never_loaded : NeverLoaded
unfolding EachNoLoad
never_loaded i areas calls small f =
    let h = after (new areas) calls in
    let a = seat i h in
    let w = eight_new areas in
    let e = steady_after Empty empty_steady i small (new areas) calls w (along_of next (NoLoad i) (new areas) calls f) (empty-new i small areas) in
    let told : (c : Call) → kind i c ≡ own → answer h c ≡ own_answer a c = λ c q. own_answer_lem h i small (eight_after (new areas) calls w) c q in
    record {
      job = e.job;
      heard = e.heard;
      waits = e.waits;
      run = λ role request lent.
          told (run role i request lent) (own_kind i) ∙ ran_nothing_lem a e request (run_number role a request lent) (lent_words a.area lent)
          ∙ ap (λ (n : ℕ). ran_nothing n (lent_words a.area lent)) (run_refused a e role request lent);
      fetch = λ role buffer lent.
          let l = lent_words a.area lent in
          told (fetch role i buffer lent) (own_kind i) ∙ fetched-nothing a e (fetch_number role a buffer lent) (may_operate_of role) l buffer
          ∙ ap (λ (n : ℕ). bare n (fetch_by n l buffer).buffer l) (fetch_refused a e role buffer lent);
    }
