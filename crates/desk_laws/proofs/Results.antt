-- The results that are fetched: the calls since the last load meet the premises of demand 3 for the sector. Assumes nothing.
use mathlib.Core.Path.{◌≡◌, refl, sym, ap, ◌∙◌, subst}
use mathlib.Core.Bool.{Bool, false}
use mathlib.Core.List.{List, [], ◌∷◌, append-nil}
use Prim.Native.Nat.{ℕ, zero, suc, ◌≤◌, ◌<◌}
use native.Mathlib.Omega.{arith}
use lib.IntN.{ℤ}
use lib.ListN.{length, take, drop}
use lib.Seq.{take_at}
use Rattle.lists.specs.Lists.{tabulate, filled}
use Rattle.lists.specs.Histories.{after_all, Point}
use Rattle.lists.proofs.Tabulate.{length-tabulate}
use Rattle.lists.proofs.Histories.{after_append, along_of, each_of}
use Rattle.result_record.specs.ResultRecord.{result_byte}
use Rattle.workspace.specs.Workspace.{R, Q}
use Rattle.engine.specs.declared.job.Job.{Job}
use Rattle.engine.specs.Load.{load_refusal_of}
use Rattle.engine.specs.Run.{RunOutcome, run_done}
use Rattle.engine.specs.Fetch.{fetch_by}
use Rattle.engine.proofs.Accepted.{fetch_accepted, fetch_passes}
use Rattle.engine.proofs.Taken.{none_taken}
use Rattle.accuracy.specs.Demand3.{Load}
use Rattle.desk_laws.specs.Calls.{Lent, its, Call, fetch, Hub, new, lent_words, left_in, Answer, answer, next, after, Accepted, NoLoad, EachNoLoad, OwnLent, EachLentIts}
use Rattle.desk_laws.specs.Ledger.{matrix, Ledger, fresh, noted, ledger_after, ledger, EachIts}
use Rattle.desk_laws.specs.Sectors.{LoadedBy, SectorKept}
use Rattle.desk_laws.specs.Results.{InStep, Fetched, ResultsAccurate, FetchRepeats}
use Rattle.desk_laws.proofs.Seats.{Seat, seat, Eight, run_seat, seat_grant, no_grant, fetch_number, seat_brings, fetch_passed, fetch_answer, own_answer, fetch_number_is, seat_lent, lent_own, left_same, own_kind, own_answer_lem, own_loads_lem, eight_after, eight_new}
use Rattle.desk_laws.proofs.Steady.{Any, Steady, steady_after}
use Rattle.desk_laws.proofs.LastLoad.{Split, Last, quiet, split, last}
use Rattle.desk_laws.proofs.Ledgers.{passes_again, same_record, no_source, own_loading, own_entry, noted_all, ledger_append}
use Rattle.desk_laws.proofs.Sectors.{sector_demand_3}

-- ---- the law on results

module _ (i : ℕ) (small : i < 8) (areas : ℕ → List ℤ) (calls : List Call) (role : ℕ) (buffer rec : List ℕ) (u : InStep rec (ledger i areas calls)) where
  module _ (p : Split i (new areas) fresh calls) where
    abbrev load_hub : Hub
    load_hub = after (new areas) p.before

    load_eight : Eight load_hub.desk
    load_eight = eight_after (new areas) p.before (eight_new areas)

    abbrev load-ledger : Ledger
    load-ledger = noted i load_hub p.load (ledger i areas p.before)

    ledger-split : ledger i areas calls ≡ ledger_after i (next load_hub p.load) load-ledger p.rest
    unfolding ledger_after
    ledger-split = ap (ledger i areas) p.is ∙ ledger_append i (new areas) fresh p.before (p.load ∷ p.rest)

    hub_split : after (new areas) calls ≡ after (next load_hub p.load) p.rest
    unfolding after_all
    hub_split = ap (after (new areas)) p.is ∙ after_append next (new areas) p.before (p.load ∷ p.rest)

    source-there : load-ledger.source ≡ matrix rec
    source-there = sym p.tail.source ∙ sym (ap (λ (g : Ledger). g.source) ledger-split) ∙ u.source

    passed : load_refusal_of rec (seat_lent (seat i load_hub) p.load) ≡ 0
    passed =
        let a = seat i load_hub in
        let g = ledger i areas p.before in
        let e = ap (λ (m : Ledger). m.source) (own_entry i small load_hub p.load g load_eight p.loads.0) in
        let o = own_loading g a (noted_all i small areas p.before) p.load (sym (own_loads_lem load_hub i small load_eight p.load p.loads.0) ∙ p.loads.1) in
        subst (λ (r : List ℕ). load_refusal_of r (seat_lent a p.load) ≡ 0) (same_record o.rec rec (sym o.source ∙ sym e ∙ source-there)) o.passes

    abbrev loaded : Load
    loaded = record { bytes = rec; lent = seat_lent (seat i load_hub) p.load; small = u.small; accepted = passed }

    loaded_by : LoadedBy i areas p.before p.load loaded
    unfolding ledger_after
    loaded_by = record {
      loads = p.loads;
      source = ap (λ (g : Ledger). g.source) (ledger_append i (new areas) fresh p.before (p.load ∷ [])) ∙ source-there;
      lent = lent_own load_hub i p.load p.loads.0;
    }

    kept-since : SectorKept i loaded (next load_hub p.load) p.rest
    unfolding EachNoLoad EachLentIts
    kept-since =
        let g = next load_hub p.load in
        let t = p.tail in
        let v = t.its (subst (λ (m : Ledger). EachIts m.since) ledger-split u.lent) in
        sector_demand_3 i areas p.before p.load p.rest loaded small loaded_by (each_of next (NoLoad i) g p.rest t.none) (each_of next (OwnLent i) g p.rest v.0)

    fetched-since : Fetched role i (after (next load_hub p.load) p.rest) buffer rec
    fetched-since =
        let end : Point p.rest = record { before = p.rest; rest = []; is = sym (append-nil p.rest) } in
        let iff = kept-since.fetch_accepted role buffer end in
        record {
          result = λ z. record { bytes = kept-since.written role buffer end z; factored = kept-since.factored end (iff.0 z).1 };
          accepted = iff;
        }

  by_last : Last i (new areas) fresh calls → Fetched role i (after (new areas) calls) buffer rec
  by_last (quiet t) = absurd (no_source rec (sym t.source ∙ u.source))
  by_last (split p) = subst (λ (h : Hub). Fetched role i h buffer rec) (sym (hub_split p)) (fetched-since p)

  -- the record passed Load's tests
  passes_by_last : Last i (new areas) fresh calls → (l : List ℤ) → 512 ≤ length l → load_refusal_of rec l ≡ 0
  passes_by_last (quiet t) l h = absurd (no_source rec (sym t.source ∙ u.source))
  passes_by_last (split p) l h = passes_again rec (seat_lent (seat i (load_hub p)) p.load) l (passed p) h

pub results_accurate : ResultsAccurate
results_accurate role i areas calls buffer rec small u = by_last i small areas calls role buffer rec u (last i (new areas) fresh calls)

-- what a sector's job was loaded from passes Load's tests with every area that is long enough
pub source-passes : (i : ℕ) → i < 8 → (areas : ℕ → List ℤ) (calls : List Call) (rec : List ℕ) → InStep rec (ledger i areas calls) → (l : List ℤ) → 512 ≤ length l → load_refusal_of rec l ≡ 0
source-passes i small areas calls rec u = passes_by_last i small areas calls 0 [] rec u (last i (new areas) fresh calls)

-- ---- a Fetch again

-- the sector has this job, which is finished, and this area
record Rests (job : Job) (area : List ℤ) (a : Seat) : Type 0 where
  same_job : a.job ≡ job
  same_area : a.area ≡ area

module _ (job : Job) (area : List ℤ) (end : job.turn ≡ 120) where
  ran_rests : (n request : ℕ) (a : Seat) (lent : Lent) → Rests job area a → Rests job area (run_seat n a (seat_grant a request) lent)
  ran_rests zero request a lent x =
      let l = lent_words a.area lent in
      let o = ap (λ (k : ℕ). run_done a.job k l) (no_grant a request (ap (λ (j : Job). j.turn) x.same_job ∙ end)) ∙ none_taken a.job l in
      record {
        same_job = ap (λ (r : RunOutcome). r.reply.job) o ∙ x.same_job;
        same_area = ap (λ (r : RunOutcome). left_in false a.area lent r.workspace) o ∙ left_same a.area lent ∙ x.same_area;
      }
  ran_rests (suc n) request a lent x = x

  rests_steady : Steady Any (Rests job area)
  rests_steady = record {
    ran = ran_rests;
    kept = λ rec a e x. record { same_job = x.same_job; same_area = x.same_area };
    began = λ a q x. record { same_job = x.same_job; same_area = x.same_area };
    set = λ s a x. record { same_job = x.same_job; same_area = x.same_area };
  }

-- what an accepted Fetch writes first
first-bytes : (n : ℕ) (brought : Bool) (rec : List ℕ) (l : List ℤ) (buffer : List ℕ) → n ≡ 0 → take 2049 (fetch_answer n brought rec l buffer).buffer ≡ tabulate 2049 (result_byte (R l) (Q l))
unfolding fetch_by filled
first-bytes zero brought rec l buffer e = take_at (tabulate 2049 (result_byte (R l) (Q l))) (drop 2049 buffer) 2049 (length-tabulate 2049 (result_byte (R l) (Q l)))
first-bytes (suc n) brought rec l buffer e = absurd (omega (arith, e))

module _ (role i : ℕ) (small : i < 8) (h : Hub) (w : Eight h.desk) (buffer : List ℕ) where
  fetch_own : answer h (fetch role i buffer its) ≡ own_answer (seat i h) (fetch role i buffer its)
  fetch_own = own_answer_lem h i small w (fetch role i buffer its) (own_kind i)

  pub number_own : (answer h (fetch role i buffer its)).number ≡ fetch_number role (seat i h) buffer its
  number_own =
      let a = seat i h in
      ap (λ (r : Answer). r.number) fetch_own ∙ fetch_number_is (fetch_number role a buffer its) (seat_brings role a) a.waiting a.area buffer

  bytes_own : Accepted h (fetch role i buffer its) → take 2049 (answer h (fetch role i buffer its)).buffer ≡ tabulate 2049 (result_byte (R (h.area i)) (Q (h.area i)))
  bytes_own z =
      let a = seat i h in
      ap (λ (r : Answer). take 2049 r.buffer) fetch_own ∙ first-bytes (fetch_number role a buffer its) (seat_brings role a) a.waiting a.area buffer (sym number_own ∙ z)

pub fetch_repeats : FetchRepeats
unfolding EachNoLoad
fetch_repeats role role' i areas before between buffer buffer' small z f may room =
    let h = after (new areas) before in
    let c = fetch role i buffer its in
    let a = seat i h in
    let w = eight_after (new areas) before (eight_new areas) in
    let g = after h (c ∷ between) in
    let w' = eight_after h (c ∷ between) w in
    let t = fetch_accepted a.job a.area buffer (fetch_passed role a buffer its (sym (number_own role i small h w buffer) ∙ z)).1 in
    let x : Rests a.job a.area (seat i g) =
    steady_after (Rests a.job a.area) (rests_steady a.job a.area t.last) i small h (c ∷ between) w (along_of next (NoLoad i) h (c ∷ between) f) (record { same_job = refl; same_area = refl }) in
    let p = fetch_passes a.job a.area buffer' (record { room = t.room; last = t.last; made = t.made; space = room; finished = t.finished }) in
    let y : fetch_number role' (seat i g) buffer' its ≡ 0 = rw (x.same_job, x.same_area, may) p in
    let d = number_own role' i small g w' buffer' ∙ y in
    (d, bytes_own role' i small g w' buffer' d ∙ ap (λ (l : List ℤ). tabulate 2049 (result_byte (R l) (Q l))) x.same_area ∙ sym (bytes_own role i small h w buffer z))
