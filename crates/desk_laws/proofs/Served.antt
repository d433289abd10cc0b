-- The premises of the laws can be met, and U10's number of rounds is sharp. Assumes nothing.
use mathlib.Core.Path.{◌≡◌, refl, sym, ap, ap₂, ◌∙◌, subst}
use mathlib.Core.Bool.{Bool, true, false, not, ◌||◌}
use mathlib.Core.List.{List, [], ◌∷◌, ◌++◌}
use Prim.Native.Nat.{ℕ, zero, suc, ◌+◌, ◌-◌, ◌*◌, ◌≤◌, ◌<◌, min}
use native.Mathlib.Nat.{div-add-mod', le_refl, suc-mul, zero-mul}
use native.Mathlib.Omega.{arith}
use borrow.Author.Tests.{le-ltb}
use lib.Dec.{ltb}
use lib.IntN.{ℤ}
use lib.ListN.{length, get_or, replicate, get_or-replicate}
use lib.Seq.{get_or-set_same, get_or-set_other}
use Rattle.integers.proofs.Sum.{total_one}
use Rattle.lists.specs.Histories.{after_all, Place}
use Rattle.lists.proofs.Histories.{after_append, Along, along_of, along_append, each_of}
use Rattle.refusals.specs.Refusals.{header_test}
use Rattle.workspace.proofs.WordsAfter.{words-length}
use Rattle.engine.specs.declared.job.Job.{Job}
use Rattle.engine.specs.Load.{load_refusal_of}
use Rattle.engine.specs.Run.{next_job, run_done}
use Rattle.engine.proofs.Accepted.{PossibleJob, load-accepted, run_passes}
use Rattle.engine.proofs.Taken.{possible_next}
use Rattle.accuracy.specs.Demand3.{Load}
use Rattle.accuracy.proofs.Loading.{loaded-room}
use Rattle.desk.specs.Desk.{unloaded_job, job_at_of}
use Rattle.desk.specs.Roles.{operator}
use Rattle.desk.specs.HandIn.{hand_in_refusal_of}
use Rattle.desk.specs.Fetch.{desk_fetch_refusal}
use Rattle.desk.specs.Shares.{total_of, shares_test, set_shares_refusal_of}
use Rattle.desk.proofs.Accepted.{sector_passes, left-passes}
use Rattle.desk_laws.specs.Calls.{its, Call, hand_in, run, fetch, begin, Hub, new, loads_if, loads, next, after, Accepted, Kind, own, other, setting, setting_by, kind, Loads, NoLoad, EachNoLoad, OwnLent, EachLentIts}
use Rattle.desk_laws.specs.Ledger.{Ledger, fresh, if_accepted, noted, ledger_after}
use Rattle.desk_laws.specs.Sectors.{LoadedBy}
use Rattle.desk_laws.specs.Finish.{Undisturbed, EachUndisturbed, Requests, in_rounds, EachRequests, rounded_up}
use Rattle.desk_laws.specs.Served.{only_for, giving, requesting, ServedInRounds, NoRoundFewer, unserved, UnservedPossible}
use Rattle.desk_laws.proofs.Seats.{Seat, seat, Eight, loaded_seat, hand_seat, run_seat, hand_number, seat_must_wait, run_number, seat_grant, own_next, hand_number_is, own_kind, own_next_lem, own_loads_lem, refilled, sharing, step, seat_next, eight_next, eight_after, eight_new}
use Rattle.desk_laws.proofs.Unloaded.{none-waits, never_loaded}
use Rattle.desk_laws.proofs.Ledgers.{own_entry}
use Rattle.desk_laws.proofs.Calm.{Calm, Stays, calm_after}
use Rattle.desk_laws.proofs.Sectors.{sector_demand_3}

-- ---- the share of one sector is the total

only_own : (i s : ℕ) → i < 8 → get_or (only_for i s) i 0 ≡ s
only_own i s small = get_or-set_same (replicate 8 0) i s 0 small

only-total : (i s : ℕ) → i < 8 → total_of (only_for i s) ≡ s
only-total i s small =
    total_one 8 (λ k. get_or (only_for i s) k 0) i small (λ k below d. get_or-set_other (replicate 8 0) i k s 0 d ∙ get_or-replicate 8 k 0 0 below)
    ∙ only_own i s small

given-kind : (i s : ℕ) → i < 8 → s ≤ 120 → kind i (giving i s) ≡ setting s
unfolding set_shares_refusal_of
given-kind i s small fits =
    let t = only-total i s small in
    let z : shares_test (only_for i s) ≡ 0 = rw (le-ltb 120 (total_of (only_for i s)) (omega (arith, t))) in
    ap₂ setting_by z (only_own i s small)

-- ---- a sector that has its share, room in its area, and n turns granted, as far as its job had them left

pub record Ready (s n : ℕ) (a : Seat) : Type 0 where
  pub share : a.share ≡ s
  pub turn : a.job.turn ≡ min n 120
  pub possible : PossibleJob a.job
  pub room : 512 ≤ length a.area

-- a record that is just loaded
pub loaded_ready : (s : ℕ) (a : Seat) (rec : List ℕ) (l : List ℤ) → ((k : ℕ) → get_or rec k 0 < 256) → 512 ≤ length l → a.share ≡ s → Ready s 0 (loaded_seat a rec l)
loaded_ready s a rec l bytes room f =
    record { share = f; turn = refl; possible = record { turn = omega arith; made = omega arith }; room = loaded-room rec bytes l room }

-- with its whole share left it is granted that much, or what its job has left
module _ (s n : ℕ) (positive : 0 < s) (a : Seat) (x : Ready s n a) (full : a.left ≡ s) where
  taken : run_number operator a s its ≡ 0
  taken =
      let r = run_passes a.job a.area (record { room = x.room; possible = x.possible }) in
      rw (r, left-passes a.job a.left s (omega (arith, full, positive)))

  ran : Ready s (n + s) (run_seat 0 a (seat_grant a s) its)
  unfolding run_done next_job
  ran =
      let fits : a.job.turn + seat_grant a s ≤ 120 = omega (arith, x.possible.turn) in
      record {
        share = x.share;
        turn = omega (arith, x.turn, full);
        possible = possible_next a.job (seat_grant a s) a.area (omega arith) x.possible;
        room = omega (arith, words-length a.job.turn (seat_grant a s) a.area fits x.room, x.room);
      }

  granted : Ready s (n + s) (run_seat (run_number operator a s its) a (seat_grant a s) its)
  granted = subst (λ (k : ℕ). Ready s (n + s) (run_seat k a (seat_grant a s) its)) (sym taken) ran

-- ---- the calls of others

abbrev ByOther : ℕ → Hub → Call → Type 0
ByOther i h c = kind i c ≡ other

module _ (i : ℕ) (small : i < 8) where
  -- the sector stands as it stood, so that Q holds of each of them
  quiet : (Q : Hub → Call → Type 0) (a : Seat) → ((h : Hub) (c : Call) → kind i c ≡ other → seat i h ≡ a → Q h c)
      → (h : Hub) (calls : List Call) → Eight h.desk → Along next (ByOther i) h calls → seat i h ≡ a → Along next Q h calls × (seat i (after h calls) ≡ a)
  unfolding Along after_all
  quiet Q a f h [] w o e = (tt, e)
  quiet Q a f h (c ∷ calls) w o e =
      let z = seat_next h i small w c ∙ ap (λ (k : Kind). step k c (seat i h)) o.0 ∙ e in
      let r = quiet Q a f (next h c) calls (eight_next h c w) o.1 z in
      ((f h c o.0 e, r.0), r.1)

never_own : {A : Type 0} {k : Kind} → k ≡ other → k ≡ own → A
never_own e f = absurd (let z : ◌≡◌ {A = ℕ} 0 1 = cc in omega arith)

-- ---- a round

module _ (i s : ℕ) (small : i < 8) (positive : 0 < s) (others : List Call) (none : (c : Call) → Place c others → kind i c ≡ other) where
  abbrev round_calls : List Call
  round_calls = others ++ run operator i s its ∷ []

  -- what the premises say of the calls from here on, and how the sector stands after them
  pub record Going (h : Hub) (n : ℕ) (calls : List Call) : Type 0 where
    pub undisturbed : Along next (Undisturbed i s) h calls
    pub lent : Along next (OwnLent i) h calls
    pub ready : Ready s n (seat i (after h calls))

  module _ (h : Hub) (w : Eight h.desk) (n : ℕ) (x : Ready s n (seat i h)) where
    abbrev begun : Hub
    begun = next h (begin operator)

    abbrev before_run : Hub
    before_run = after begun others

    abbrev full : Seat
    full = refilled (seat i h)

    full_ready : Ready s n full
    full_ready = record { share = x.share; turn = x.turn; possible = x.possible; room = x.room }

    by_others : (Q : Hub → Call → Type 0) → ((g : Hub) (c : Call) → kind i c ≡ other → seat i g ≡ full → Q g c)
        → Along next Q begun others × (seat i before_run ≡ full)
    by_others Q f =
        quiet i small Q full f begun others (eight_next h (begin operator) w) (along_of next (ByOther i) begun others (λ c p. none c p)) (seat_next h i small w (begin operator))

    stays : seat i before_run ≡ full
    stays = (by_others (ByOther i) (λ g c o e. o)).1

    ends : seat i (after begun round_calls) ≡ run_seat (run_number operator full s its) full (seat_grant full s) its
    unfolding after_all
    ends =
        ap (seat i) (after_append next begun others (run operator i s its ∷ []))
        ∙ own_next_lem before_run i small (eight_after begun others (eight_next h (begin operator) w)) (run operator i s its) (own_kind i)
        ∙ ap (λ (a : Seat). own_next a (run operator i s its)) stays

    requested : Requests i s begun round_calls
    requested =
        record { request = s; lent = its; place = record { before = others; rest = []; is = refl }; enough = le_refl s; room = subst (λ (a : Seat). 512 ≤ length a.area) (sym stays) x.room }

    went : Going h (n + s) (begin operator ∷ round_calls)
    unfolding Along after_all
    went = record {
      undisturbed = (
        record { share = λ e. x.share; not_loaded = λ o. refl },
        along_append next (Undisturbed i s) begun others (run operator i s its ∷ [])
            (by_others (Undisturbed i s) (λ g c o e. record { share = λ z. ap (λ (a : Seat). a.share) e ∙ x.share; not_loaded = λ z. never_own o z })).0
            (record { share = λ z. ap (λ (a : Seat). a.share) stays ∙ x.share; not_loaded = λ o. refl }, tt),
      );
      lent = (
        λ o z. tt,
        along_append next (OwnLent i) begun others (run operator i s its ∷ []) (by_others (OwnLent i) (λ g c o e z. never_own o z)).0 (λ o z. tt, tt),
      );
      ready = subst (Ready s (n + s)) (sym ends) (granted s n positive full full_ready x.share);
    }

  -- ---- m rounds

  pub all_went : (m : ℕ) (h : Hub) → Eight h.desk → (n : ℕ) → Ready s n (seat i h)
      → Going h (n + m * s) (in_rounds (requesting i s others m)) × EachRequests i s h (requesting i s others m)
  unfolding Along after_all in_rounds EachRequests
  all_went zero h w n x =
      let z : n ≡ n + 0 * s = omega (arith, zero-mul s) in
      (record { undisturbed = tt; lent = tt; ready = subst (λ (k : ℕ). Ready s k (seat i h)) z x }, tt)
  all_went (suc m) h w n x =
      let g = after (begun h w n x) round_calls in
      let rest = in_rounds (requesting i s others m) in
      let first = went h w n x in
      let later = all_went m g (eight_after (begun h w n x) round_calls (eight_next h (begin operator) w)) (n + s) first.ready in
      let e : n + s + m * s ≡ n + suc m * s = omega (arith, suc-mul m s) in (
        record {
          undisturbed = along_append next (Undisturbed i s) h (begin operator ∷ round_calls) rest first.undisturbed later.0.undisturbed;
          lent = along_append next (OwnLent i) h (begin operator ∷ round_calls) rest first.lent later.0.lent;
          ready = subst (λ (b : Hub). Ready s (n + suc m * s) (seat i b)) (sym (after_append next (begun h w n x) round_calls rest)) (subst (λ (k : ℕ). Ready s k (seat i (after g rest))) e later.0.ready);
        },
        (requested h w n x, later.1),
      )

  -- ---- the rounds are calm: the sector requests its share and does nothing else

  pub rounds_calm : (m : ℕ) (h : Hub) → Along next (Calm i) h (in_rounds (requesting i s others m))
  unfolding Along in_rounds
  rounds_calm zero h = tt
  rounds_calm (suc m) h = (
    λ o. tt,
    along_append next (Calm i) (next h (begin operator)) round_calls (in_rounds (requesting i s others m))
        (along_append next (Calm i) (next h (begin operator)) others (run operator i s its ∷ []) (along_of next (Calm i) (next h (begin operator)) others (λ c p o. never_own (none c p) o)) (λ o. tt, tt))
        (rounds_calm m (after (next h (begin operator)) round_calls)),
  )

-- a Fetch brings nothing in where none waits
pub no_load : (n : ℕ) {b : Bool} → b ≡ false → loads_if n b ≡ false
no_load zero e = e
no_load (suc n) e = refl

-- ---- from a new desk on

module _ (i s : ℕ) (small : i < 8) (positive : 0 < s) (fits : s ≤ 120) (areas : ℕ → List ℤ) (l : Load) (same : l.lent ≡ areas i) (others : List Call) (none : (c : Call) → Place c others → kind i c ≡ other) (m : ℕ) where
  abbrev given_hub : Hub
  given_hub = next (new areas) (giving i s)

  abbrev handing : Call
  handing = hand_in operator i l.bytes its

  abbrev rounds : List Call
  rounds = in_rounds (requesting i s others m)

  given_seat : seat i given_hub ≡ sharing (seat i (new areas)) s
  given_seat = seat_next (new areas) i small (eight_new areas) (giving i s) ∙ ap (λ (k : Kind). step k (giving i s) (seat i (new areas))) (given-kind i s small fits)

  pub given_eight : Eight given_hub.desk
  given_eight = eight_next (new areas) (giving i s) (eight_new areas)

  its_area : given_hub.area i ≡ l.lent
  its_area = ap (λ (a : Seat). a.area) given_seat ∙ sym same

  -- it need not wait
  pub at_once : seat_must_wait (seat i given_hub) ≡ false
  at_once =
      ap seat_must_wait given_seat
      ∙ ap₂ (λ (b : Bool) (j : Job). b || ltb j.turn 120) (none-waits i small areas) (get_or-replicate 8 i unloaded_job _ small)

  pub passes : hand_number operator (seat i given_hub) l.bytes its ≡ 0
  passes = rw its_area l.accepted

  pub taken_in : Loads i given_hub handing
  taken_in = (own_kind i, own_loads_lem given_hub i small given_eight handing (own_kind i) ∙ ap₂ (λ (n : ℕ) (b : Bool). loads_if n (not b)) passes at_once)

  pub loaded_seat_lem : seat i (next given_hub handing) ≡ loaded_seat (seat i given_hub) l.bytes (given_hub.area i)
  loaded_seat_lem =
      own_next_lem given_hub i small given_eight handing (own_kind i)
      ∙ ap₂ (λ (n : ℕ) (b : Bool). hand_seat n b (seat i given_hub) l.bytes its) passes at_once

  pub at_start : Ready s 0 (seat i (next given_hub handing))
  at_start =
      let room = (load-accepted l.bytes (given_hub.area i) passes).room in
      subst (Ready s 0) (sym loaded_seat_lem) (loaded_ready s (seat i given_hub) l.bytes (given_hub.area i) l.small room (ap (λ (a : Seat). a.share) given_seat))

  going : Going i s small positive others none (next given_hub handing) (0 + m * s) rounds × EachRequests i s (next given_hub handing) (requesting i s others m)
  going = all_went i s small positive others none m (next given_hub handing) (eight_next given_hub handing given_eight) 0 at_start

  abbrev first-ledger : Ledger
  first-ledger = noted i given_hub handing (noted i (new areas) (giving i s) fresh)

  pub entry_is : first-ledger ≡ if_accepted 0 true handing (noted i (new areas) (giving i s) fresh)
  entry_is =
      let a = seat i given_hub in
      let g = noted i (new areas) (giving i s) fresh in
      own_entry i small given_hub handing g given_eight (own_kind i)
      ∙ ap₂ (λ (n : ℕ) (b : Bool). if_accepted n b handing g) (hand_number_is _ (seat_must_wait a) a l.bytes a.area ∙ passes) (sym (own_loads_lem given_hub i small given_eight handing (own_kind i)) ∙ taken_in.1)

  calm : Stays i (next given_hub handing) first-ledger rounds
  calm =
      calm_after i small (next given_hub handing) first-ledger rounds (eight_next given_hub handing given_eight)
      (rounds_calm i s small positive others none m (next given_hub handing)) going.0.lent

  turn_is : (job_at_of (after (next given_hub handing) rounds).desk i).turn ≡ min (m * s) 120
  turn_is = let t = going.0.ready.turn in omega (arith, t)

  module _ (buffer : List ℕ) where
    abbrev fetching : List Call
    fetching = fetch operator i buffer its ∷ []

    lent_later : Along next (OwnLent i) (next given_hub handing) (rounds ++ fetching)
    unfolding Along
    lent_later = along_append next (OwnLent i) (next given_hub handing) rounds fetching going.0.lent (λ o z. tt, tt)

    lent_all : EachLentIts i (new areas) (giving i s ∷ handing ∷ rounds ++ fetching)
    unfolding EachLentIts Along
    lent_all = each_of next (OwnLent i) (new areas) (giving i s ∷ handing ∷ rounds ++ fetching) (λ o z. tt, (λ o z. tt, lent_later))

    lent-since : EachLentIts i (next given_hub handing) (rounds ++ fetching)
    unfolding EachLentIts
    lent-since = each_of next (OwnLent i) (next given_hub handing) (rounds ++ fetching) lent_later

    not_brought_in : loads (after (next given_hub handing) rounds) (fetch operator i buffer its) ≡ false
    not_brought_in = no_load (desk_fetch_refusal operator _ i _ buffer) (calm.waits ∙ ap (λ (a : Seat). a.waits) loaded_seat_lem)

    loaded_once : EachNoLoad i (next given_hub handing) (rounds ++ fetching)
    unfolding EachNoLoad Along
    loaded_once =
        each_of next (NoLoad i) (next given_hub handing) (rounds ++ fetching)
        (along_append next (NoLoad i) (next given_hub handing) rounds fetching (along_map going.0.undisturbed) (λ o. not_brought_in, tt))
      where
        along_map : Along next (Undisturbed i s) (next given_hub handing) rounds → Along next (NoLoad i) (next given_hub handing) rounds
        along_map u = along_of next (NoLoad i) (next given_hub handing) rounds (λ c p. (each_of next (Undisturbed i s) (next given_hub handing) rounds u c p).not_loaded)

    loaded_by : LoadedBy i areas (giving i s ∷ []) handing l
    unfolding ledger_after after_all
    loaded_by = record { loads = taken_in; source = ap (λ (g : Ledger). g.source) entry_is; lent = its_area }

    fetched : 2049 ≤ length buffer → 120 ≤ m * s → Accepted (after (next given_hub handing) rounds) (fetch operator i buffer its)
    unfolding after_all
    fetched space enough =
        let kept = sector_demand_3 i areas (giving i s ∷ []) handing (rounds ++ fetching) l small loaded_by loaded_once lent-since in
        let t = turn_is in
        (kept.fetch_accepted operator buffer (record { before = rounds; rest = fetching; is = refl })).1 (refl, omega (arith, t, enough), space)

pub served_in_rounds : ServedInRounds
unfolding after_all EachUndisturbed
served_in_rounds i s areas l others m buffer small positive fits same none space =
    let g = going i s small positive fits areas l same others none m in
    let h = next (next (new areas) (giving i s)) (hand_in operator i l.bytes its) in
    record {
      loaded = taken_in i s small positive fits areas l same others none m;
      undisturbed = each_of next (Undisturbed i s) h (in_rounds (requesting i s others m)) g.0.undisturbed;
      requests = g.1;
      loaded_by = loaded_by i s small positive fits areas l same others none m buffer;
      lent = lent_all i s small positive fits areas l same others none m buffer;
      not_loaded = loaded_once i s small positive fits areas l same others none m buffer;
      turn = turn_is i s small positive fits areas l same others none m;
      accepted = fetched i s small positive fits areas l same others none m buffer space;
    }

-- ---- one round fewer does not do

too_few : (s : ℕ) → 0 < s → min ((rounded_up 120 s - 1) * s) 120 < 120
too_few s positive =
    let q = div-add-mod' (120 + s - 1) s in
    let t = fewer (rounded_up 120 s) (omega arith) in
    omega arith
  where
    fewer : (k : ℕ) → k * s ≤ 119 + s → (k - 1) * s ≤ 119
    fewer zero h = omega (arith, zero-mul s)
    fewer (suc k) h = let z : suc k - 1 ≡ k = omega arith in rw z (omega (arith, suc-mul k s, h))

pub no_round_fewer : NoRoundFewer
unfolding after_all
no_round_fewer i areas l others small same none =
    record {
      one_fewer = λ s positive fits. omega (arith, too_few s positive, turn_is i s small positive fits areas l same others none (rounded_up 120 s - 1));
      eighteen = refl;
      seventeen = turn_is i 7 small (omega arith) (omega arith) areas l same others none 17;
    }

-- ---- a sector that is not served

empty-refused : (i : ℕ) (areas : ℕ → List ℤ) → i < 8 → loads (new areas) (hand_in operator i [] its) ≡ false
unfolding hand_in_refusal_of load_refusal_of header_test
empty-refused i areas small = rw (sector_passes i small)

-- up to the Fetch, so that none waits there
unserved-before : (i request : ℕ) (areas : ℕ → List ℤ) → i < 8 → EachNoLoad i (new areas) (hand_in operator i [] its ∷ run operator i request its ∷ begin operator ∷ [])
unfolding EachNoLoad Along
unserved-before i request areas small =
    each_of next (NoLoad i) (new areas) (hand_in operator i [] its ∷ run operator i request its ∷ begin operator ∷ []) (λ o. empty-refused i areas small, (λ o. refl, (λ o. refl, tt)))

pub unserved_possible : UnservedPossible
unfolding EachNoLoad Along after_all
unserved_possible i request areas buffer small =
    let z = (never_loaded i areas (hand_in operator i [] its ∷ run operator i request its ∷ begin operator ∷ []) small (unserved-before i request areas small)).waits in
    each_of next (NoLoad i) (new areas) (unserved i request buffer)
    (λ o. empty-refused i areas small, (λ o. refl, (λ o. refl, (λ o. no_load (desk_fetch_refusal operator _ i _ buffer) z, (λ o. refl, tt)))))
