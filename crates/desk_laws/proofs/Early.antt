-- The premises can be met: two matrices, the second handed in early, come out of a sector one after the other. Assumes nothing.
use mathlib.Core.Path.{◌≡◌, refl, sym, ap, ap₂, ◌∙◌, subst}
use mathlib.Core.Bool.{Bool, true, false, not, ◌||◌}
use mathlib.Core.List.{List, [], ◌∷◌, ◌++◌}
use Prim.Native.Nat.{ℕ, ◌+◌, ◌*◌, ◌≤◌, ◌<◌}
use native.Mathlib.Omega.{arith}
use native.Mathlib.Nat.{add-mul}
use borrow.Author.Tests.{lt-ltb}
use lib.IntN.{ℤ}
use lib.ListN.{length, get_or}
use Rattle.lists.specs.Histories.{after_all, Place}
use Rattle.lists.proofs.Histories.{after_append, Along, each_of}
use Rattle.accuracy.specs.Demand3.{Load}
use Rattle.desk.specs.declared.Desk.{Desk}
use Rattle.desk.specs.Desk.{job_at_of, waits_at_of}
use Rattle.desk.specs.Roles.{fitter, operator, may_fetch_of}
use Rattle.desk.specs.Fetch.{desk_fetch_refusal}
use Rattle.desk_laws.specs.Calls.{its, Call, hand_in, fetch, Hub, new, loads_if, next, after, other, kind, Loads, NoLoad, EachNoLoad}
use Rattle.desk_laws.specs.Ledger.{matrix, Ledger, fresh, if_accepted, noted, ledger_after, ledger, EachIts}
use Rattle.desk_laws.specs.Finish.{Undisturbed, EachUndisturbed, EachRequests}
use Rattle.desk_laws.specs.Results.{InStep}
use Rattle.desk_laws.specs.Views.{Untouched}
use Rattle.desk_laws.specs.Served.{giving, requesting}
use Rattle.desk_laws.specs.Early.{rounds, under_way, early, both_worked, ComesOut, BothComeOut}
use Rattle.desk_laws.proofs.Seats.{Seat, seat, Eight, kept_seat, loaded_seat, hand_seat, fetch_seat, hand_number, seat_must_wait, fetch_number, hand_number_is, fetch_number_is, own_kind, own_next_lem, own_loads_lem, eight_next, eight_after, eight_new}
use Rattle.desk_laws.proofs.Ledgers.{passes_again, same_record, own_entry, noted_all, ledger_append}
use Rattle.desk_laws.proofs.Views.{only-operator_changes}
use Rattle.desk_laws.proofs.Calm.{Stays, calm_after}
use Rattle.desk_laws.proofs.Results.{number_own, results_accurate}
use Rattle.desk_laws.proofs.Served.{Ready, loaded_ready, Going, all_went, rounds_calm, no_load, given_eight, loaded_seat_lem, at_start, entry_is}

-- ---- rounds from a hub on

module _ (i s : ℕ) (small : i < 8) (positive : 0 < s) (others : List Call) (none : (c : Call) → Place c others → kind i c ≡ other) (m : ℕ) (h : Hub) (g : Ledger) (w : Eight h.desk) (n : ℕ) (r : Ready s n (seat i h)) where
  went : Going i s small positive others none h (n + m * s) (rounds i s others m) × EachRequests i s h (requesting i s others m)
  went = all_went i s small positive others none m h w n r

  calm : Stays i h g (rounds i s others m)
  calm = calm_after i small h g (rounds i s others m) w (rounds_calm i s small positive others none m h) went.0.lent

module _ (i s : ℕ) (small : i < 8) (positive : 0 < s) (fits : s ≤ 120) (areas : ℕ → List ℤ) (l later : Load) (same : l.lent ≡ areas i) (others : List Call) (none : (c : Call) → Place c others → kind i c ≡ other) (k m : ℕ) (unfinished : k * s < 120) (enough : 120 ≤ (k + m) * s) (buffer : List ℕ) (space : 2049 ≤ length buffer) where
  -- ---- the first is under way
  abbrev first_hub : Hub
  first_hub = next (next (new areas) (giving i s)) (hand_in operator i l.bytes its)

  abbrev first-ledger : Ledger
  first-ledger = noted i (next (new areas) (giving i s)) (hand_in operator i l.bytes its) (noted i (new areas) (giving i s) fresh)

  first_eight : Eight first_hub.desk
  first_eight = eight_next (next (new areas) (giving i s)) (hand_in operator i l.bytes its) (given_eight i s small positive fits areas l same others none k)

  first_ready : Ready s 0 (seat i first_hub)
  first_ready = at_start i s small positive fits areas l same others none k

  abbrev way_hub : Hub
  way_hub = after first_hub (rounds i s others k)

  way_eight : Eight way_hub.desk
  way_eight = eight_after first_hub (rounds i s others k) first_eight

  way_ready : Ready s (0 + k * s) (seat i way_hub)
  way_ready = (went i s small positive others none k first_hub first-ledger first_eight 0 first_ready).0.ready

  way_calm : Stays i first_hub first-ledger (rounds i s others k)
  way_calm = calm i s small positive others none k first_hub first-ledger first_eight 0 first_ready

  abbrev way_ledger : Ledger
  way_ledger = ledger_after i first_hub first-ledger (rounds i s others k)

  way_its : EachIts way_ledger.since
  unfolding EachIts
  way_its = way_calm.its (subst (λ (g : Ledger). EachIts g.since) (sym (entry_is i s small positive fits areas l same others none k)) tt)

  -- ---- the second is handed in
  abbrev second : Call
  second = hand_in operator i later.bytes its

  must_wait_lem : seat_must_wait (seat i way_hub) ≡ true
  must_wait_lem =
      let t = way_ready.turn in
      ap₂ ◌||◌ (way_calm.waits ∙ ap (λ (a : Seat). a.waits) (loaded_seat_lem i s small positive fits areas l same others none k))
      (lt-ltb (seat i way_hub).job.turn 120 (omega (arith, t, unfinished)))

  second_passes : hand_number operator (seat i way_hub) later.bytes its ≡ 0
  second_passes = passes_again later.bytes later.lent (way_hub.area i) later.accepted way_ready.room

  abbrev kept_hub : Hub
  kept_hub = next way_hub second

  kept_eight : Eight kept_hub.desk
  kept_eight = eight_next way_hub second way_eight

  kept_seat_lem : seat i kept_hub ≡ kept_seat (seat i way_hub) later.bytes
  kept_seat_lem =
      own_next_lem way_hub i small way_eight second (own_kind i)
      ∙ ap₂ (λ (n : ℕ) (b : Bool). hand_seat n b (seat i way_hub) later.bytes its) second_passes must_wait_lem

  kept_ready : Ready s (0 + k * s) (seat i kept_hub)
  kept_ready =
      let r = way_ready in
      subst (Ready s (0 + k * s)) (sym kept_seat_lem) (record { share = r.share; turn = r.turn; possible = r.possible; room = r.room })

  abbrev kept-ledger : Ledger
  kept-ledger = noted i way_hub second way_ledger

  kept_entry : kept-ledger ≡ if_accepted 0 false second way_ledger
  kept_entry =
      let a = seat i way_hub in
      own_entry i small way_hub second way_ledger way_eight (own_kind i)
      ∙ ap₂ (λ (n : ℕ) (b : Bool). if_accepted n b second way_ledger) (hand_number_is _ (seat_must_wait a) a later.bytes a.area ∙ second_passes) (ap₂ (λ (n : ℕ) (b : Bool). loads_if n (not b)) second_passes must_wait_lem)

  kept_its : EachIts kept-ledger.since
  unfolding EachIts
  kept_its = subst (λ (g : Ledger). EachIts g.since) (sym kept_entry) (tt, way_its)

  kept_calm : Stays i kept_hub kept-ledger (rounds i s others m)
  kept_calm = calm i s small positive others none m kept_hub kept-ledger kept_eight (0 + k * s) kept_ready

  -- ---- the first comes out
  abbrev early_calls : List Call
  early_calls = early i s l later others k m

  abbrev early_hub : Hub
  early_hub = after (new areas) early_calls

  early_is : early_hub ≡ after kept_hub (rounds i s others m)
  unfolding after_all
  early_is = after_append next (new areas) (under_way i s l others k) (second ∷ rounds i s others m)

  early_ledger : ledger i areas early_calls ≡ ledger_after i kept_hub kept-ledger (rounds i s others m)
  unfolding after_all ledger_after
  early_ledger = ledger_append i (new areas) fresh (under_way i s l others k) (second ∷ rounds i s others m)

  early_waits : waits_at_of early_hub.desk i ≡ true
  early_waits = ap (λ (h : Hub). waits_at_of h.desk i) early_is ∙ kept_calm.waits ∙ ap (λ (a : Seat). a.waits) kept_seat_lem

  early_handed : (ledger i areas early_calls).handed ≡ matrix later.bytes
  early_handed = ap (λ (g : Ledger). g.handed) early_ledger ∙ kept_calm.handed ∙ ap (λ (g : Ledger). g.handed) kept_entry

  early_source : (ledger i areas early_calls).source ≡ matrix l.bytes
  early_source =
      ap (λ (g : Ledger). g.source) early_ledger ∙ kept_calm.source ∙ ap (λ (g : Ledger). g.source) kept_entry ∙ way_calm.source
      ∙ ap (λ (g : Ledger). g.source) (entry_is i s small positive fits areas l same others none k)

  early_in_step : InStep l.bytes (ledger i areas early_calls)
  early_in_step =
      record { source = early_source; lent = subst (λ (g : Ledger). EachIts g.since) (sym early_ledger) (kept_calm.its kept_its); small = l.small }

  early_ready : Ready s (0 + k * s + m * s) (seat i early_hub)
  early_ready =
      subst (λ (h : Hub). Ready s (0 + k * s + m * s) (seat i h)) (sym early_is) (went i s small positive others none m kept_hub kept-ledger kept_eight (0 + k * s) kept_ready).0.ready

  early_turn : 120 ≤ (job_at_of early_hub.desk i).turn
  early_turn = let t = early_ready.turn in omega (arith, t, enough, add-mul k m s)

  comes_for : (role : ℕ) → may_fetch_of role ≡ true → ComesOut role i areas early_calls buffer l.bytes
  comes_for role may =
      let f = results_accurate role i areas early_calls buffer l.bytes small early_in_step in
      let z = f.accepted.1 (may, early_turn, space) in
      record {
        accepted = z;
        in_step = early_in_step;
        result = f.result z;
      }

  first_comes : ComesOut operator i areas early_calls buffer l.bytes
  first_comes = comes_for operator refl

  fitter-leaves : Untouched early_hub (fetch fitter i buffer its)
  fitter-leaves = only-operator_changes early_hub (fetch fitter i buffer its) refl

  still_waits : waits_at_of (next early_hub (fetch fitter i buffer its)).desk i ≡ true
  still_waits = ap (λ (d : Desk). waits_at_of d i) fitter-leaves.desk ∙ early_waits

  -- ---- the second comes in
  abbrev fetching : Call
  fetching = fetch operator i buffer its

  early_eight : Eight early_hub.desk
  early_eight = eight_after (new areas) early_calls (eight_new areas)

  fetch_passed : fetch_number operator (seat i early_hub) buffer its ≡ 0
  fetch_passed = sym (number_own operator i small early_hub early_eight buffer) ∙ first_comes.accepted

  brings_in : loads_if (fetch_number operator (seat i early_hub) buffer its) (seat i early_hub).waits ≡ true
  brings_in = ap₂ loads_if fetch_passed early_waits

  brought : Loads i early_hub fetching
  brought = (own_kind i, own_loads_lem early_hub i small early_eight fetching (own_kind i) ∙ brings_in)

  brought_seat : seat i (next early_hub fetching) ≡ loaded_seat (seat i early_hub) (seat i early_hub).waiting (early_hub.area i)
  brought_seat =
      own_next_lem early_hub i small early_eight fetching (own_kind i) ∙ ap₂ (λ (n : ℕ) (b : Bool). fetch_seat n b (seat i early_hub) its) fetch_passed early_waits

  -- what waited is the second
  waited : (seat i early_hub).waiting ≡ later.bytes
  waited = same_record (seat i early_hub).waiting later.bytes (sym ((noted_all i small areas early_calls).waiting early_waits).handed ∙ early_handed)

  brought_ready : Ready s 0 (seat i (next early_hub fetching))
  brought_ready =
      let bytes = subst (λ (rec : List ℕ). (n : ℕ) → get_or rec n 0 < 256) (sym waited) later.small in
      subst (Ready s 0) (sym brought_seat) (loaded_ready s (seat i early_hub) (seat i early_hub).waiting (early_hub.area i) bytes early_ready.room early_ready.share)

  abbrev brought_ledger : Ledger
  brought_ledger = noted i early_hub fetching (ledger i areas early_calls)

  brought_entry : brought_ledger ≡ if_accepted 0 true fetching (ledger i areas early_calls)
  brought_entry =
      let a = seat i early_hub in
      own_entry i small early_hub fetching (ledger i areas early_calls) early_eight (own_kind i)
      ∙ ap₂ (λ (n : ℕ) (b : Bool). if_accepted n b fetching (ledger i areas early_calls)) (fetch_number_is _ a.waits a.waiting a.area buffer ∙ fetch_passed) brings_in

  brought_source : (ledger i areas (early_calls ++ fetching ∷ [])).source ≡ matrix later.bytes
  unfolding ledger_after
  brought_source =
      ap (λ (g : Ledger). g.source) (ledger_append i (new areas) fresh early_calls (fetching ∷ []) ∙ brought_entry) ∙ early_handed

  -- ---- is worked
  abbrev brought_hub : Hub
  brought_hub = next early_hub fetching

  brought_eight : Eight brought_hub.desk
  brought_eight = eight_next early_hub fetching early_eight

  brought_went : Going i s small positive others none brought_hub (0 + (k + m) * s) (rounds i s others (k + m)) × EachRequests i s brought_hub (requesting i s others (k + m))
  brought_went = went i s small positive others none (k + m) brought_hub brought_ledger brought_eight 0 brought_ready

  brought_calm : Stays i brought_hub brought_ledger (rounds i s others (k + m))
  brought_calm = calm i s small positive others none (k + m) brought_hub brought_ledger brought_eight 0 brought_ready

  undisturbed_then : EachUndisturbed i s brought_hub (rounds i s others (k + m))
  unfolding EachUndisturbed
  undisturbed_then = each_of next (Undisturbed i s) brought_hub (rounds i s others (k + m)) brought_went.0.undisturbed

  -- ---- and comes out
  abbrev both_calls : List Call
  both_calls = both_worked i s l later others k m buffer

  abbrev both_hub : Hub
  both_hub = after (new areas) both_calls

  both_is : both_hub ≡ after brought_hub (rounds i s others (k + m))
  unfolding after_all
  both_is = after_append next (new areas) early_calls (fetching ∷ rounds i s others (k + m))

  both_ledger : ledger i areas both_calls ≡ ledger_after i brought_hub brought_ledger (rounds i s others (k + m))
  unfolding ledger_after
  both_ledger = ledger_append i (new areas) fresh early_calls (fetching ∷ rounds i s others (k + m))

  both_in_step : InStep later.bytes (ledger i areas both_calls)
  unfolding EachIts
  both_in_step =
      subst (InStep later.bytes) (sym both_ledger)
      (record { source = brought_calm.source ∙ ap (λ (g : Ledger). g.source) brought_entry ∙ early_handed; lent = brought_calm.its (subst (λ (g : Ledger). EachIts g.since) (sym brought_entry) tt); small = later.small })

  both_turn : 120 ≤ (job_at_of both_hub.desk i).turn
  both_turn = subst (λ (h : Hub). 120 ≤ (job_at_of h.desk i).turn) (sym both_is) (let t = brought_went.0.ready.turn in omega (arith, t, enough))

  second_comes : ComesOut operator i areas both_calls buffer later.bytes
  second_comes =
      let f = results_accurate operator i areas both_calls buffer later.bytes small both_in_step in
      let z = f.accepted.1 (refl, both_turn, space) in
      record {
        accepted = z;
        in_step = both_in_step;
        result = f.result z;
      }

  -- ---- and again
  both_eight : Eight both_hub.desk
  both_eight = eight_after (new areas) both_calls (eight_new areas)

  none-waits : waits_at_of both_hub.desk i ≡ false
  none-waits = ap (λ (h : Hub). waits_at_of h.desk i) both_is ∙ brought_calm.waits ∙ ap (λ (a : Seat). a.waits) brought_seat

  once_more : EachNoLoad i both_hub (fetching ∷ [])
  unfolding EachNoLoad Along
  once_more = each_of next (NoLoad i) both_hub (fetching ∷ []) (λ o. no_load (desk_fetch_refusal operator _ i _ buffer) none-waits, tt)

  both_passed : fetch_number operator (seat i both_hub) buffer its ≡ 0
  both_passed = sym (number_own operator i small both_hub both_eight buffer) ∙ second_comes.accepted

  again_seat : seat i (next both_hub fetching) ≡ seat i both_hub
  again_seat =
      own_next_lem both_hub i small both_eight fetching (own_kind i) ∙ ap₂ (λ (n : ℕ) (b : Bool). fetch_seat n b (seat i both_hub) its) both_passed none-waits

  again_ledger : ledger i areas (both_calls ++ fetching ∷ []) ≡ if_accepted 0 false fetching (ledger i areas both_calls)
  unfolding ledger_after
  again_ledger =
      let a = seat i both_hub in
      ledger_append i (new areas) fresh both_calls (fetching ∷ []) ∙ own_entry i small both_hub fetching (ledger i areas both_calls) both_eight (own_kind i)
      ∙ ap₂ (λ (n : ℕ) (b : Bool). if_accepted n b fetching (ledger i areas both_calls)) (fetch_number_is _ a.waits a.waiting a.area buffer ∙ both_passed) (ap₂ loads_if both_passed none-waits)

  again_in_step : InStep later.bytes (ledger i areas (both_calls ++ fetching ∷ []))
  unfolding EachIts
  again_in_step =
      subst (InStep later.bytes) (sym again_ledger) (record { source = both_in_step.source; lent = (tt, both_in_step.lent); small = later.small })

  again_turn : 120 ≤ (job_at_of (after (new areas) (both_calls ++ fetching ∷ [])).desk i).turn
  unfolding after_all
  again_turn =
      subst (λ (h : Hub). 120 ≤ (job_at_of h.desk i).turn) (sym (after_append next (new areas) both_calls (fetching ∷ [])))
      (subst (λ (a : Seat). 120 ≤ a.job.turn) (sym again_seat) both_turn)

  comes_again : ComesOut operator i areas (both_calls ++ fetching ∷ []) buffer later.bytes
  comes_again =
      let f = results_accurate operator i areas (both_calls ++ fetching ∷ []) buffer later.bytes small again_in_step in
      let z = f.accepted.1 (refl, again_turn, space) in
      record {
        accepted = z;
        in_step = again_in_step;
        result = f.result z;
      }

pub both_come_out : BothComeOut
both_come_out i s areas l later others k m buffer small positive fits same none unfinished enough space =
    record {
      waits = early_waits i s small positive fits areas l later same others none k m unfinished enough buffer space;
      first_out = first_comes i s small positive fits areas l later same others none k m unfinished enough buffer space;
      fitter_out = comes_for i s small positive fits areas l later same others none k m unfinished enough buffer space fitter refl;
      fitter-brings-nothing = (fitter-leaves i s small positive fits areas l later same others none k m unfinished enough buffer space).loads;
      waits_on = still_waits i s small positive fits areas l later same others none k m unfinished enough buffer space;
      brings = brought i s small positive fits areas l later same others none k m unfinished enough buffer space;
      source = brought_source i s small positive fits areas l later same others none k m unfinished enough buffer space;
      undisturbed = undisturbed_then i s small positive fits areas l later same others none k m unfinished enough buffer space;
      requests = (brought_went i s small positive fits areas l later same others none k m unfinished enough buffer space).1;
      second_out = second_comes i s small positive fits areas l later same others none k m unfinished enough buffer space;
      again = once_more i s small positive fits areas l later same others none k m unfinished enough buffer space;
      out_again = comes_again i s small positive fits areas l later same others none k m unfinished enough buffer space;
    }
