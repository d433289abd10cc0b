-- Demand 3 for each sector: the desk's account of it and demand 3's go side by side. Assumes nothing.
use mathlib.Core.Path.{◌≡◌, refl, sym, ap, ap₂, ◌∙◌, subst}
use mathlib.Core.Logic.{◌↔◌}
use mathlib.Core.Bool.{Bool, true, false, not}
use mathlib.Core.List.{List, [], ◌∷◌, ◌++◌, append_assoc, append-nil}
use Prim.Native.Nat.{ℕ, zero, suc, ◌+◌, ◌≤◌, ◌<◌}
use native.Mathlib.Omega.{arith}
use lib.Dec.{T}
use lib.IntN.{ℤ}
use lib.ListN.{length, drop}
use Rattle.lists.specs.Histories.{after_all, Place, Point}
use Rattle.lists.proofs.Histories.{after_append, Along, along_of, along_append, each_of, each-before}
use Rattle.refusals.specs.Refusals.{first}
use Rattle.matrix_record.specs.MatrixRecord.{real_entry_of}
use Rattle.result_record.specs.ResultRecord.{result_record_of}
use Rattle.workspace.specs.Workspace.{R, Q}
use Rattle.engine.specs.Load.{load_by, load_of}
use Rattle.engine.specs.Run.{next_job, run_done}
use Rattle.engine.proofs.Taken.{all_taken}
use Rattle.engine.specs.Fetch.{fetch_refusal_of, fetch_by, fetch_of}
use Rattle.accuracy.specs.Factorization.{Factorization}
use Rattle.accuracy.specs.Demand3.{Load, State, RunCall, FetchCall, ran, refusal, start, EachInStep, Kept}
use Rattle.accuracy.specs.Demand3 as engine
use Rattle.accuracy.proofs.Demand3.{demand3}
use Rattle.accuracy.proofs.Possible.{Stepping}
use Rattle.desk.specs.Desk.{job_at_of}
use Rattle.desk.specs.Roles.{may_fetch_of, role_test}
use Rattle.desk_laws.specs.Calls.{Lent, its, another, Call, hand_in, run, fetch, heard, begin, set_shares, Hub, new, lent_words, loads_if, loads, Answer, bare, answer, next, after, Accepted, Kind, own, other, round, setting, kind, NoLoad, EachNoLoad, Its, LentIts, OwnLent, EachLentIts}
use Rattle.desk_laws.specs.Ledger.{matrix, Ledger, fresh, if_accepted, ledger_after, ledger}
use Rattle.desk_laws.specs.Sectors.{engine_run, engine_fetch, if_allowed, engine_call, engine_calls, state_after, ran_answer, fetched_answer, LoadedBy, SectorDemand3}
use Rattle.desk_laws.proofs.Seats.{Seat, seat, Eight, loaded_seat, hand_seat, run_seat, fetch_seat, hand_number, seat_must_wait, run_number, fetch_number, seat_brings, seat_grant, run_passed, fetch_passed, own_next, own_loads, run_answer, fetch_answer, own_answer, run_number_is, fetch_number_is, seat_lent, lent_own, own_kind, own_next_lem, own_loads_lem, own_answer_lem, step, seat_next, eight_next, eight_after, eight_new}
use Rattle.desk_laws.proofs.Ledgers.{same_record, own_loading, own_entry, noted_all, ledger_append}
use Rattle.desk_laws.proofs.Refusals.{refusals_change_nothing}

-- ---- a seat and a state of demand 3 side by side

record Beside (a : Seat) (s : State) : Type 0 where
  area : a.area ≡ s.workspace
  job : a.job ≡ s.job
  granted : a.job.turn ≡ s.granted

-- one call of the seat, and the engine's calls for it: each of them is in step if it is accepted, and they stay side by side
record Step (a : Seat) (s : State) (calls : List engine.Call) : Type 0 where
  in_step : Along engine.after Stepping s calls
  beside : Beside a (after_all engine.after s calls)

module _ (a : Seat) (s : State) (b : Beside a s) where
  idle : Step a s []
  unfolding Along after_all
  idle = record { in_step = tt; beside = b }

  hand_step : (rec : List ℕ) (lent : Lent) (n : ℕ) (must : Bool) → loads_if n (not must) ≡ false → Step (hand_seat n must a rec lent) s []
  unfolding Along after_all
  hand_step rec lent zero true f = record { in_step = tt; beside = record { area = b.area; job = b.job; granted = b.granted } }
  hand_step rec lent zero false f = absurd (subst T f tt)
  hand_step rec lent (suc n) must f = idle

  -- an accepted Run, with the turns granted for its allowance
  ran_is : (role request : ℕ) → run_number role a request its ≡ 0 → ran s (engine_run a.job (seat_grant a request) its) ≡ run_done a.job (seat_grant a request) a.area
  ran_is role request e =
      rw (← b.area) (all_taken a.job (seat_grant a request) a.area (run_passed role a request its e) (omega arith))

  ran-told : (role request : ℕ) → run_number role a request its ≡ 0 → run_answer 0 a.job (seat_grant a request) a.area ≡ ran_answer (ran s (engine_run a.job (seat_grant a request) its))
  unfolding run_done
  ran-told role request e = rw (ran_is role request e)

  -- a Fetch, which may bring one in; a role that may fetch adds nothing
  allowed_number : (role : ℕ) (buffer : List ℕ) (lent : Lent) → may_fetch_of role ≡ true → fetch_number role a buffer lent ≡ fetch_refusal_of a.job (lent_words a.area lent) buffer
  allowed_number role buffer lent m = ap (λ (t : Bool). first (role_test t) (fetch_refusal_of a.job (lent_words a.area lent) buffer)) m

  fetched_by : (n : ℕ) (brought : Bool) (buffer : List ℕ) (l : List ℤ)
      → (let r = fetch_answer n brought a.waiting l buffer in r ≡ bare n (fetch_by n l buffer).buffer r.words)
  unfolding fetch_by
  fetched_by zero brought buffer l = refl
  fetched_by (suc n) brought buffer l = refl

  fetched-told : (role : ℕ) (buffer : List ℕ) → may_fetch_of role ≡ true → (let r = own_answer a (fetch role 0 buffer its) in r ≡ fetched_answer s (engine_fetch a.job buffer its) r.words)
  unfolding fetch_of
  fetched-told role buffer m =
      let w = (fetch_answer (fetch_number role a buffer its) (seat_brings role a) a.waiting a.area buffer).words in
      fetched_by (fetch_number role a buffer its) (seat_brings role a) buffer a.area
      ∙ ap (λ (n : ℕ). bare n (fetch_by n a.area buffer).buffer w) (allowed_number role buffer its m) ∙ rw b.area

  fetched-left : (n : ℕ) (brought : Bool) (buffer : List ℕ) → loads_if n brought ≡ false → (fetch_answer n brought a.waiting a.area buffer).words ≡ s.workspace
  fetched-left zero true buffer f = absurd (subst T f tt)
  fetched-left zero false buffer f = b.area
  fetched-left (suc n) brought buffer f = b.area

  run_done_lem : (role request : ℕ) → run_number role a request its ≡ 0
      → Beside (run_seat 0 a (seat_grant a request) its) (engine.moved s (engine_run a.job (seat_grant a request) its) (ran s (engine_run a.job (seat_grant a request) its)))
  unfolding run_done next_job
  run_done_lem role request e =
      let k = seat_grant a request in
      rw (ran_is role request e) (record { area = refl; job = refl; granted = ap (λ (n : ℕ). n + k) b.granted })

  run_step : (role j request : ℕ) (lent : Lent) (n : ℕ) → run_number role a request lent ≡ n
      → (let r = run_answer n a.job (seat_grant a request) (lent_words a.area lent) in
      (r.number ≡ 0 → Its lent) → Step (run_seat n a (seat_grant a request) lent) s (engine_call own r.number a.job (run role j request lent) r.count))
  unfolding Along after_all run_done
  run_step role j request its zero e u = record { in_step = (λ z. (refl, b.job), tt); beside = run_done_lem role request e }
  run_step role j request (another m) zero e u = absurd (u refl)
  run_step role j request lent (suc n) e u = idle

  fetch_step : (buffer : List ℕ) (lent : Lent) (may : Bool) → (first (role_test may) (fetch_refusal_of a.job (lent_words a.area lent) buffer) ≡ 0 → Its lent)
      → Step a s (if_allowed may (engine_fetch a.job buffer lent))
  unfolding Along after_all
  fetch_step buffer its true u = record { in_step = (λ z. (refl, b.job), tt); beside = b }
  fetch_step buffer (another m) true u = record { in_step = (λ z. absurd (u z), tt); beside = b }
  fetch_step buffer lent false u = idle

  not_brought : (lent : Lent) (n : ℕ) (brought : Bool) → loads_if n brought ≡ false → fetch_seat n brought a lent ≡ a
  not_brought lent zero true f = absurd (subst T f tt)
  not_brought lent zero false f = refl
  not_brought lent (suc n) brought f = refl

  own_step : (c : Call) → own_loads a c ≡ false → ((own_answer a c).number ≡ 0 → LentIts c)
      → Step (own_next a c) s (engine_call own (own_answer a c).number a.job c (own_answer a c).count)
  own_step (hand_in role j rec lent) f u = hand_step rec lent (hand_number role a rec lent) (seat_must_wait a) f
  own_step (run role j request lent) f u = run_step role j request lent (run_number role a request lent) refl u
  own_step (fetch role j buffer lent) f u =
      let n = fetch_number role a buffer lent in
      let w = seat_brings role a in
      let e = fetch_number_is n w a.waiting (lent_words a.area lent) buffer in
      subst (λ (x : Seat). Step x s (if_allowed (may_fetch_of role) (engine_fetch a.job buffer lent))) (sym (not_brought lent n w f)) (fetch_step buffer lent (may_fetch_of role) (λ z. u (e ∙ z)))
  own_step (heard role j) f u = idle
  own_step (begin role) f u = idle
  own_step (set_shares role shares eight) f u = idle

-- ---- over a list of calls

module _ (i : ℕ) (small : i < 8) where
  by_kind : (h : Hub) (c : Call) (s : State) (k : Kind) → kind i c ≡ k → Eight h.desk → Beside (seat i h) s → (k ≡ own → loads h c ≡ false) → (k ≡ own → Accepted h c → LentIts c)
      → Step (step k c (seat i h)) s (engine_call k (answer h c).number (job_at_of h.desk i) c (answer h c).count)
  by_kind h c s own e w b f u =
      let r = own_answer_lem h i small w c e in
      let n = ap (λ (x : Answer). x.number) r in
      subst (λ (x : Answer). Step (own_next (seat i h) c) s (engine_call own x.number (job_at_of h.desk i) c x.count)) (sym r)
      (own_step (seat i h) s b c (sym (own_loads_lem h i small w c e) ∙ f refl) (λ z. u refl (n ∙ z)))
  by_kind h c s other e w b f u = idle _ s b
  by_kind h c s round e w b f u = idle _ s (record { area = b.area; job = b.job; granted = b.granted })
  by_kind h c s (setting t) e w b f u = idle _ s (record { area = b.area; job = b.job; granted = b.granted })

  all : (h : Hub) (s : State) (calls : List Call) → Eight h.desk → Beside (seat i h) s → Along next (NoLoad i) h calls → Along next (OwnLent i) h calls
      → Step (seat i (after h calls)) s (engine_calls i h calls)
  unfolding Along after_all engine_calls
  all h s [] w b f u = idle (seat i h) s b
  all h s (c ∷ calls) w b f u =
      let now = engine_call (kind i c) (answer h c).number (job_at_of h.desk i) c (answer h c).count in
      let x = subst (λ (a : Seat). Step a s now) (sym (seat_next h i small w c)) (by_kind h c s (kind i c) refl w b f.0 u.0) in
      let y = all (next h c) (after_all engine.after s now) calls (eight_next h c w) x.beside f.1 u.1 in
      record {
        in_step = along_append engine.after Stepping s now (engine_calls i (next h c) calls) x.in_step y.in_step;
        beside = subst (Beside (seat i (after (next h c) calls))) (sym (after_append engine.after s now (engine_calls i (next h c) calls))) y.beside;
      }

  engine_append : (h : Hub) (a b : List Call) → engine_calls i h (a ++ b) ≡ engine_calls i h a ++ engine_calls i (after h a) b
  unfolding engine_calls after_all
  engine_append h [] b = refl
  engine_append h (c ∷ a) b =
      let now = engine_call (kind i c) (answer h c).number (job_at_of h.desk i) c (answer h c).count in
      ap (λ (t : List engine.Call). now ++ t) (engine_append (next h c) a b) ∙ sym (append_assoc now (engine_calls i (next h c) a) (engine_calls i (after (next h c) a) b))

-- ---- the sector's calls since a Load

module _ (i : ℕ) (small : i < 8) (l : Load) (g : Hub) (w : Eight g.desk) (b : Beside (seat i g) (start l)) (calls : List Call) (f : EachNoLoad i g calls) (u : EachLentIts i g calls) where
  at : (p : Point calls) → Step (seat i (after g p.before)) (start l) (engine_calls i g p.before)
  unfolding EachNoLoad EachLentIts
  at p =
      all i small g (start l) p.before w b
      (along_of next (NoLoad i) g p.before (each-before next (NoLoad i) g calls p f))
      (along_of next (OwnLent i) g p.before (each-before next (OwnLent i) g calls p u))

  stepped : EachInStep l (engine_calls i g calls)
  unfolding EachInStep
  stepped = each_of engine.after Stepping (start l) (engine_calls i g calls) (at (record { before = calls; rest = []; is = sym (append-nil calls) })).in_step

  kept : Kept l (engine_calls i g calls)
  kept = demand3 l (engine_calls i g calls) stepped

  -- a place of the desk's list, as a point
  abbrev here : {c : Call} → Place c calls → Point calls
  here {c} p = record { before = p.before; rest = c ∷ p.rest; is = p.is }

  module _ {c : Call} (p : Place c calls) where
    eight_here : Eight (after g p.before).desk
    eight_here = eight_after g p.before w

    beside_here : Beside (seat i (after g p.before)) (state_after i l g p.before)
    beside_here = (at (here p)).beside

    told_here : kind i c ≡ own → answer (after g p.before) c ≡ own_answer (seat i (after g p.before)) c
    told_here e = own_answer_lem (after g p.before) i small eight_here c e

  -- and as a place of the engine's list
  abbrev rest_calls : {c : Call} → Place c calls → List engine.Call
  rest_calls {c} p = engine_calls i (next (after g p.before) c) p.rest

  split : {c : Call} (p : Place c calls) (d : engine.Call)
      → (let h = after g p.before in engine_call (kind i c) (answer h c).number (job_at_of h.desk i) c (answer h c).count ≡ d ∷ [])
      → engine_calls i g calls ≡ engine_calls i g p.before ++ d ∷ rest_calls p
  unfolding engine_calls
  split {c} p d e =
      ap (engine_calls i g) p.is ∙ engine_append i small g p.before (c ∷ p.rest)
      ∙ ap (λ (t : List engine.Call). engine_calls i g p.before ++ (t ++ rest_calls p)) e

  module _ (role request : ℕ) (p : Place (run role i request its) calls) where
    abbrev run_hub_lem : Hub
    run_hub_lem = after g p.before

    abbrev run_call : RunCall
    run_call = engine_run (job_at_of run_hub_lem.desk i) (answer run_hub_lem (run role i request its)).count its

    run_split : (answer run_hub_lem (run role i request its)).number ≡ 0 → engine_calls i g calls ≡ engine_calls i g p.before ++ engine.run run_call ∷ rest_calls p
    run_split z =
        split p (engine.run run_call)
        (ap₂ (λ (k : Kind) (n : ℕ). engine_call k n (job_at_of run_hub_lem.desk i) (run role i request its) (answer run_hub_lem (run role i request its)).count) (own_kind i) z)

    -- what an accepted Run answers
    run_told_lem : (answer run_hub_lem (run role i request its)).number ≡ 0 → answer run_hub_lem (run role i request its) ≡ ran_answer (ran (state_after i l g p.before) run_call)
    unfolding run_done
    run_told_lem z =
        let a = seat i run_hub_lem in
        let k = seat_grant a request in
        let q = told_here p (own_kind i) in
        let n : run_number role a request its ≡ 0 = sym (run_number_is (run_number role a request its) a.job k a.area) ∙ sym (ap (λ (x : Answer). x.number) q) ∙ z in
        let t = q ∙ ap (λ (m : ℕ). run_answer m a.job k a.area) n in
        t ∙ ran-told a (state_after i l g p.before) (beside_here p) role request n
        ∙ ap (λ (m : ℕ). ran_answer (ran (state_after i l g p.before) (engine_run a.job m its))) (sym (ap (λ (x : Answer). x.count) t))

    run_clamps : (answer run_hub_lem (run role i request its)).number ≡ 0
        → ((answer run_hub_lem (run role i request its)).clamps-r ≡ 0) × ((answer run_hub_lem (run role i request its)).clamps-q ≡ 0)
    run_clamps z =
        let k = kept.no_run_clamps run_call (record { before = engine_calls i g p.before; rest = rest_calls p; is = run_split z }) in
        (ap (λ (x : Answer). x.clamps-r) (run_told_lem z) ∙ k.0, ap (λ (x : Answer). x.clamps-q) (run_told_lem z) ∙ k.1)

  -- a Run that is lent any area is refused, or it is lent the sector's
  abbrev Unclamped : (role request : ℕ) (lent : Lent) → Place (run role i request lent) calls → Type 0
  Unclamped role request lent p = let x = answer (after g p.before) (run role i request lent) in (x.clamps-r ≡ 0) × (x.clamps-q ≡ 0)

  by_number : (role request : ℕ) (lent : Lent) (p : Place (run role i request lent) calls) (n : ℕ) → (answer (after g p.before) (run role i request lent)).number ≡ n → Unclamped role request lent p
  unfolding EachLentIts
  by_number role request its p zero e = run_clamps role request p e
  by_number role request (another m) p zero e = absurd (u (run role i request (another m)) p (own_kind i) e)
  by_number role request lent p (suc n) e =
      let x = (refusals_change_nothing (after g p.before) (run role i request lent) (λ z. omega (arith, e, z))).answer in
      (ap (λ (y : Answer). y.clamps-r) x, ap (λ (y : Answer). y.clamps-q) x)

  -- a Fetch at any point, whether or not it stands there
  module _ (role : ℕ) (buffer : List ℕ) (p : Point calls) where
    abbrev fetch_hub_lem : Hub
    fetch_hub_lem = after g p.before

    abbrev fetch_call : FetchCall
    fetch_call = engine_fetch (job_at_of fetch_hub_lem.desk i) buffer its

    abbrev fetch_state : State
    fetch_state = state_after i l g p.before

    beside_there : Beside (seat i fetch_hub_lem) fetch_state
    beside_there = (at p).beside

    -- the engine's calls up to there, and the Fetch
    abbrev then_fetched : List engine.Call
    then_fetched = engine_calls i g p.before ++ engine.fetch fetch_call ∷ []

    then_kept : Kept l then_fetched
    unfolding EachInStep Along
    then_kept =
        demand3 l then_fetched
        (each_of engine.after Stepping (start l) then_fetched
        (along_append engine.after Stepping (start l) (engine_calls i g p.before) (engine.fetch fetch_call ∷ []) (at p).in_step (λ z. (refl, beside_there.job), tt)))

    abbrev fetch_place : Place (engine.fetch fetch_call) then_fetched
    fetch_place = record { before = engine_calls i g p.before; rest = []; is = refl }

    own_told : answer fetch_hub_lem (fetch role i buffer its) ≡ own_answer (seat i fetch_hub_lem) (fetch role i buffer its)
    own_told = own_answer_lem fetch_hub_lem i small (eight_after g p.before w) (fetch role i buffer its) (own_kind i)

    fetch_told_lem : may_fetch_of role ≡ true → answer fetch_hub_lem (fetch role i buffer its) ≡ fetched_answer fetch_state fetch_call (answer fetch_hub_lem (fetch role i buffer its)).words
    fetch_told_lem m =
        own_told ∙ fetched-told (seat i fetch_hub_lem) fetch_state beside_there role buffer m
        ∙ ap (λ (x : Answer). fetched_answer fetch_state fetch_call x.words) (sym own_told)

    fetch_left : loads fetch_hub_lem (fetch role i buffer its) ≡ false → (answer fetch_hub_lem (fetch role i buffer its)).words ≡ fetch_state.workspace
    fetch_left f =
        let a = seat i fetch_hub_lem in
        let e = own_loads_lem fetch_hub_lem i small (eight_after g p.before w) (fetch role i buffer its) (own_kind i) in
        ap (λ (x : Answer). x.words) own_told ∙ fetched-left a fetch_state beside_there (fetch_number role a buffer its) (seat_brings role a) buffer (sym e ∙ f)

    number-told : may_fetch_of role ≡ true → (answer fetch_hub_lem (fetch role i buffer its)).number ≡ refusal fetch_state (engine.fetch fetch_call)
    number-told m = ap (λ (x : Answer). x.number) (fetch_told_lem m)

    -- an accepted one is of a role that may fetch
    allowed : Accepted fetch_hub_lem (fetch role i buffer its) → may_fetch_of role ≡ true
    allowed z =
        let a = seat i fetch_hub_lem in
        let n = fetch_number role a buffer its in
        (fetch_passed role a buffer its (sym (fetch_number_is n (seat_brings role a) a.waiting a.area buffer) ∙ sym (ap (λ (x : Answer). x.number) own_told) ∙ z)).0

    fetch_iff : Accepted fetch_hub_lem (fetch role i buffer its) ↔ ((may_fetch_of role ≡ true) × (120 ≤ (job_at_of fetch_hub_lem.desk i).turn) × (2049 ≤ length buffer))
    fetch_iff =
        let k = then_kept.fetch_accepted fetch_call fetch_place (refl, beside_there.job) in
        let t = beside_there.granted in
        let forth : Accepted fetch_hub_lem (fetch role i buffer its) → (may_fetch_of role ≡ true) × (120 ≤ (job_at_of fetch_hub_lem.desk i).turn) × (2049 ≤ length buffer) =
        λ z. (let m = allowed z in let x = k.0 (sym (number-told m) ∙ z) in (m, omega (arith, t, x.0), x.1)) in
        (forth, λ x. number-told x.0 ∙ k.1 (omega (arith, t, x.1), x.2))

    fetch_written : Accepted fetch_hub_lem (fetch role i buffer its)
        → (answer fetch_hub_lem (fetch role i buffer its)).buffer ≡ result_record_of (R (fetch_hub_lem.area i)) (Q (fetch_hub_lem.area i)) ++ drop 2049 buffer
    fetch_written z =
        let m = allowed z in
        ap (λ (x : Answer). x.buffer) (fetch_told_lem m) ∙ rw beside_there.area (then_kept.written fetch_call fetch_place (sym (number-told m) ∙ z))

  -- once all turns are granted
  factored_at : (p : Point calls)
      → (let h = after g p.before in 120 ≤ (job_at_of h.desk i).turn → Factorization (real_entry_of l.bytes) (R (h.area i)) (Q (h.area i)))
  factored_at p z =
      let b = (at p).beside in
      let t = b.granted in
      let is = ap (engine_calls i g) p.is ∙ engine_append i small g p.before p.rest in
      rw b.area (kept.factored (record { before = engine_calls i g p.before; rest = engine_calls i (after g p.before) p.rest; is = is }) (omega (arith, t, z)))

-- ---- the law

-- the sector after the load, by what was loaded
module _ (i : ℕ) (small : i < 8) (areas : ℕ → List ℤ) (before : List Call) (c : Call) (l : Load) (d : LoadedBy i areas before c l) where
  abbrev load_hub : Hub
  load_hub = after (new areas) before

  load_eight : Eight load_hub.desk
  load_eight = eight_after (new areas) before (eight_new areas)

  start_beside : (a : Seat) (rec : List ℕ) (words : List ℤ) → rec ≡ l.bytes → words ≡ l.lent → Beside (loaded_seat a rec words) (start l)
  unfolding start load_of load_by
  start_beside a rec words e f = rw (e, f, l.accepted) (record { area = refl; job = refl; granted = refl })

  -- what the ledger has noted is what was loaded
  loaded-source : (if_accepted (own_answer (seat i load_hub) c).number (own_loads (seat i load_hub) c) c (ledger i areas before)).source ≡ matrix l.bytes
  unfolding ledger_after
  loaded-source =
      ap (λ (n : Ledger). n.source) (sym (own_entry i small load_hub c (ledger i areas before) load_eight d.loads.0) ∙ sym (ledger_append i (new areas) fresh before (c ∷ [])))
      ∙ d.source

  loaded_beside : Beside (seat i (next load_hub c)) (start l)
  loaded_beside =
      let a = seat i load_hub in
      let o = own_loading (ledger i areas before) a (noted_all i small areas before) c (sym (own_loads_lem load_hub i small load_eight c d.loads.0) ∙ d.loads.1) in
      let b = start_beside a o.rec (seat_lent a c) (same_record o.rec l.bytes (sym o.source ∙ loaded-source)) (sym (lent_own load_hub i c d.loads.0) ∙ d.lent) in
      subst (λ (x : Seat). Beside x (start l)) (sym (own_next_lem load_hub i small load_eight c d.loads.0 ∙ o.is)) b

pub sector_demand_3 : SectorDemand3
sector_demand_3 i areas before c calls l small d f u =
    let h = after (new areas) before in
    let g = next h c in
    let x = eight_next h c (eight_after (new areas) before (eight_new areas)) in
    let b = loaded_beside i small areas before c l d in
    record {
      in_step = stepped i small l g x b calls f u;
      kept = kept i small l g x b calls f u;
      follows = λ p. let y = (at i small l g x b calls f u p).beside in record { area = y.area; job = y.job; granted = y.granted };
      runs = run_told_lem i small l g x b calls f u;
      fetches = λ role buffer p m. (fetch_told_lem i small l g x b calls f u role buffer p m, fetch_left i small l g x b calls f u role buffer p);
      no_clamps = λ role request lent p. by_number i small l g x b calls f u role request lent p _ refl;
      fetch_accepted = fetch_iff i small l g x b calls f u;
      written = fetch_written i small l g x b calls f u;
      factored = factored_at i small l g x b calls f u;
    }
