-- The ledger and the sector side by side: what waits is what was handed in last, and the heard byte is that of the source. Assumes nothing.
use mathlib.Core.Path.{◌≡◌, refl, sym, ap, ap₂, ◌∙◌, subst}
use mathlib.Core.Bool.{Bool, true, false, not}
use mathlib.Core.List.{List, [], ◌∷◌, ◌++◌}
use Prim.Native.Nat.{ℕ, zero, suc, ◌≤◌, ◌<◌}
use native.Mathlib.Omega.{arith}
use lib.Dec.{T}
use lib.IntN.{ℤ}
use lib.ListN.{length}
use Rattle.lists.specs.Histories.{after_all}
use Rattle.lists.proofs.Histories.{along_of}
use Rattle.matrix_record.specs.MatrixRecord.{heard_byte_of}
use Rattle.engine.specs.Load.{load_refusal_of}
use Rattle.engine.proofs.Accepted.{load-accepted, load-passes, fetch_accepted}
use Rattle.desk.specs.Desk.{heard_at_of}
use Rattle.desk.specs.Roles.{may_hear_of, role_test}
use Rattle.desk_laws.specs.Calls.{Lent, Call, hand_in, run, fetch, heard, begin, set_shares, Hub, new, lent_words, loads_if, loads, Answer, answer, next, after, Kind, own, other, round, setting, kind, NoLoad, EachNoLoad}
use Rattle.desk_laws.specs.Ledger.{nothing, matrix, Ledger, fresh, if_accepted, noted_by, noted, ledger_after, ledger}
use Rattle.desk_laws.specs.Loads.{WaitingIsHandedIn, NoneLost, HeardByLoad, HeardOfSource}
use Rattle.desk_laws.proofs.Seats.{Seat, seat, Eight, loaded_seat, hand_seat, run_seat, fetch_seat, hand_number, seat_must_wait, run_number, fetch_number, seat_brings, seat_grant, hand_passed, fetch_passed, brought_waits, own_next, seat_lent, own_loads, hand_answer, run_answer, fetch_answer, heard_answer, own_answer, own_answer_lem, own_loads_lem, step, seat_next, eight_next, eight_after, eight_new}
use Rattle.desk_laws.proofs.Steady.{Any, Steady, steady_after}
use Rattle.desk_laws.proofs.Unloaded.{none-waits}

-- what waits at a seat
pub record WaitingFor (g : Ledger) (a : Seat) : Type 0 where
  pub handed : g.handed ≡ matrix a.waiting
  pub passes : (l : List ℤ) → 512 ≤ length l → load_refusal_of a.waiting l ≡ 0

pub record Noted (g : Ledger) (a : Seat) : Type 0 where
  pub waiting : a.waits ≡ true → WaitingFor g a
  pub heard : (rec : List ℕ) → g.source ≡ matrix rec → a.heard ≡ heard_byte_of rec
  pub lost : a.waits ≡ false → g.source ≡ g.handed

-- a record that passes the tests with one area passes them with every other
pub passes_again : (rec : List ℕ) (l m : List ℤ) → load_refusal_of rec l ≡ 0 → 512 ≤ length m → load_refusal_of rec m ≡ 0
passes_again rec l m z room = let a = load-accepted rec l z in load-passes rec m (record { header = a.header; room = room; heard = a.heard })

pub same_record : (rec rec' : List ℕ) → matrix rec ≡ matrix rec' → rec ≡ rec'
same_record rec rec' e = cc

same_heard : (rec rec' : List ℕ) → matrix rec ≡ matrix rec' → heard_byte_of rec ≡ heard_byte_of rec'
same_heard rec rec' e = ap heard_byte_of (same_record rec rec' e)

pub no_source : (rec : List ℕ) → nothing ≡ matrix rec → ⊥
no_source rec e = let z : ◌≡◌ {A = ℕ} 0 1 = cc in omega arith

-- the ledger after an accepted call that changes neither what was handed in nor the source
stays : (g g' : Ledger) (a : Seat) → g'.handed ≡ g.handed → g'.source ≡ g.source → Noted g a → Noted g' a
stays g g' a e f x = record {
  waiting = λ z. let y = x.waiting z in record { handed = e ∙ y.handed; passes = y.passes };
  heard = λ rec z. x.heard rec (sym f ∙ z);
  lost = λ z. f ∙ x.lost z ∙ sym e;
}

-- ---- the sector's own calls

module _ (g : Ledger) (a : Seat) (x : Noted g a) where
  hand_noted : (role j : ℕ) (rec : List ℕ) (lent : Lent) (n : ℕ) (must : Bool) → hand_number role a rec lent ≡ n
      → Noted (if_accepted (hand_answer n must a rec (lent_words a.area lent)).number (loads_if n (not must)) (hand_in role j rec lent) g) (hand_seat n must a rec lent)
  hand_noted role j rec lent zero true e = record {
    waiting = λ z. record { handed = refl; passes = λ l room. passes_again rec (lent_words a.area lent) l (hand_passed role a rec lent e) room };
    heard = x.heard;
    lost = λ z. absurd (subst T z tt);
  }
  hand_noted role j rec lent zero false e = record { waiting = λ z. absurd (subst T (sym z) tt); heard = same_heard rec; lost = λ z. refl }
  hand_noted role j rec lent (suc n) must e = x

  run_noted : (role j request : ℕ) (lent : Lent) (n : ℕ)
      → Noted (if_accepted (run_answer n a.job (seat_grant a request) (lent_words a.area lent)).number false (run role j request lent) g) (run_seat n a (seat_grant a request) lent)
  run_noted role j request lent zero =
      record { waiting = λ z. let y = x.waiting z in record { handed = y.handed; passes = y.passes }; heard = x.heard; lost = x.lost }
  run_noted role j request lent (suc n) = x

  fetch_noted : (role j : ℕ) (buffer : List ℕ) (lent : Lent) (n : ℕ) (brought : Bool) → (brought ≡ true → a.waits ≡ true)
      → Noted (if_accepted (fetch_answer n brought a.waiting (lent_words a.area lent) buffer).number (loads_if n brought) (fetch role j buffer lent) g) (fetch_seat n brought a lent)
  fetch_noted role j buffer lent zero true e =
      record { waiting = λ z. absurd (subst T (sym z) tt); heard = λ rec z. same_heard a.waiting rec (sym (x.waiting (e refl)).handed ∙ z); lost = λ z. refl }
  fetch_noted role j buffer lent zero false e = stays g _ a refl refl x
  fetch_noted role j buffer lent (suc n) brought e = x

  heard_noted : (role j n : ℕ) → Noted (if_accepted (heard_answer n a.heard).number false (heard role j) g) a
  heard_noted role j zero = stays g _ a refl refl x
  heard_noted role j (suc n) = x

  own_noted : (c : Call) → Noted (if_accepted (own_answer a c).number (own_loads a c) c g) (own_next a c)
  own_noted (hand_in role j rec lent) = hand_noted role j rec lent (hand_number role a rec lent) (seat_must_wait a) refl
  own_noted (run role j request lent) = run_noted role j request lent (run_number role a request lent)
  own_noted (fetch role j buffer lent) = fetch_noted role j buffer lent (fetch_number role a buffer lent) (seat_brings role a) (brought_waits role a)
  own_noted (heard role j) = heard_noted role j (role_test (may_hear_of role))
  own_noted (begin role) = stays g _ a refl refl x
  own_noted (set_shares role shares eight) = stays g _ a refl refl x

-- ---- a call that loads the sector: which record, and what is noted of it

pub record Loading (g : Ledger) (a : Seat) (c : Call) : Type 0 where
  pub rec : List ℕ
  pub is : own_next a c ≡ loaded_seat a rec (seat_lent a c)
  pub source : (if_accepted (own_answer a c).number (own_loads a c) c g).source ≡ matrix rec
  pub passes : load_refusal_of rec (seat_lent a c) ≡ 0

module _ (g : Ledger) (a : Seat) (x : Noted g a) where
  pub own_loading : (c : Call) → own_loads a c ≡ true → Loading g a c
  own_loading (hand_in role j rec lent) f = by_hand (hand_number role a rec lent) (seat_must_wait a) refl refl f
    where
      by_hand : (n : ℕ) (must : Bool) → hand_number role a rec lent ≡ n → seat_must_wait a ≡ must → loads_if n (not must) ≡ true → Loading g a (hand_in role j rec lent)
      by_hand zero true e m z = absurd (subst T (sym z) tt)
      by_hand zero false e m z = record { rec = rec; is = rw (e, m); source = rw (e, m); passes = hand_passed role a rec lent e }
      by_hand (suc n) must e m z = absurd (subst T (sym z) tt)
  own_loading (run role j request lent) f = absurd (subst T (sym f) tt)
  own_loading (fetch role j buffer lent) f = by_fetch (fetch_number role a buffer lent) (seat_brings role a) refl refl f
    where
      by_fetch : (n : ℕ) (brought : Bool) → fetch_number role a buffer lent ≡ n → seat_brings role a ≡ brought → loads_if n brought ≡ true → Loading g a (fetch role j buffer lent)
      by_fetch zero true e m z =
          let l = lent_words a.area lent in
          let y = x.waiting (brought_waits role a m) in
          record {
            rec = a.waiting;
            is = rw (e, m);
            source = rw (e, m) y.handed;
            passes = y.passes l (fetch_accepted a.job l buffer (fetch_passed role a buffer lent e).1).room;
          }
      by_fetch zero false e m z = absurd (subst T (sym z) tt)
      by_fetch (suc n) brought e m z = absurd (subst T (sym z) tt)
  own_loading (heard role j) f = absurd (subst T (sym f) tt)
  own_loading (begin role) f = absurd (subst T (sym f) tt)
  own_loading (set_shares role shares eight) f = absurd (subst T (sym f) tt)

-- ---- over a list of calls

module _ (i : ℕ) (small : i < 8) where
  -- what is noted of a call, by the sector alone
  pub own_entry : (h : Hub) (c : Call) (g : Ledger) → Eight h.desk → kind i c ≡ own
      → noted i h c g ≡ if_accepted (own_answer (seat i h) c).number (own_loads (seat i h) c) c g
  own_entry h c g w e =
      ap (λ (k : Kind). noted_by k (answer h c).number (loads h c) c g) e
      ∙ ap₂ (λ (n : ℕ) (b : Bool). if_accepted n b c g) (ap (λ (r : Answer). r.number) (own_answer_lem h i small w c e)) (own_loads_lem h i small w c e)

  by_kind : (h : Hub) (c : Call) (g : Ledger) (k : Kind) → kind i c ≡ k → Eight h.desk → Noted g (seat i h) → Noted (noted_by k (answer h c).number (loads h c) c g) (step k c (seat i h))
  by_kind h c g own e w x =
      subst (λ (r : Ledger). Noted r (own_next (seat i h) c)) (sym (own_entry h c g w e) ∙ ap (λ (k : Kind). noted_by k (answer h c).number (loads h c) c g) e)
      (own_noted g (seat i h) x c)
  by_kind h c g other e w x = x
  by_kind h c g round e w x =
      record { waiting = λ z. let y = x.waiting z in record { handed = y.handed; passes = y.passes }; heard = x.heard; lost = x.lost }
  by_kind h c g (setting s) e w x =
      record { waiting = λ z. let y = x.waiting z in record { handed = y.handed; passes = y.passes }; heard = x.heard; lost = x.lost }

  pub noted-next : (h : Hub) (c : Call) (g : Ledger) → Eight h.desk → Noted g (seat i h) → Noted (noted i h c g) (seat i (next h c))
  noted-next h c g w x = subst (Noted (noted i h c g)) (sym (seat_next h i small w c)) (by_kind h c g (kind i c) refl w x)

  noted-after : (h : Hub) (g : Ledger) (calls : List Call) → Eight h.desk → Noted g (seat i h) → Noted (ledger_after i h g calls) (seat i (after h calls))
  unfolding ledger_after after_all
  noted-after h g [] w x = x
  noted-after h g (c ∷ calls) w x = noted-after (next h c) (noted i h c g) calls (eight_next h c w) (noted-next h c g w x)

  pub noted-new : (areas : ℕ → List ℤ) → Noted fresh (seat i (new areas))
  noted-new areas = record { waiting = λ z. absurd (subst T (sym z ∙ none-waits i small areas) tt); heard = λ rec z. absurd (no_source rec z); lost = λ z. refl }

  pub noted_all : (areas : ℕ → List ℤ) (calls : List Call) → Noted (ledger i areas calls) (seat i (after (new areas) calls))
  noted_all areas calls = noted-after (new areas) fresh calls (eight_new areas) (noted-new areas)

pub ledger_append : (i : ℕ) (h : Hub) (g : Ledger) (a b : List Call) → ledger_after i h g (a ++ b) ≡ ledger_after i (after h a) (ledger_after i h g a) b
unfolding ledger_after after_all
ledger_append i h g [] b = refl
ledger_append i h g (c ∷ a) b = ledger_append i (next h c) (noted i h c g) a b

-- ---- the laws

pub waiting_is_handed_in : WaitingIsHandedIn
waiting_is_handed_in i areas calls small z =
    let y = (noted_all i small areas calls).waiting z in
    record {
      handed = y.handed;
      passes = y.passes;
    }

pub none_lost : NoneLost
none_lost i areas calls small z = (noted_all i small areas calls).lost z

-- the heard byte is b
abbrev Hears : ℕ → Seat → Type 0
Hears b a = a.heard ≡ b

ran-hears : (b n request : ℕ) (a : Seat) (lent : Lent) → Hears b a → Hears b (run_seat n a (seat_grant a request) lent)
ran-hears b zero request a lent x = x
ran-hears b (suc n) request a lent x = x

hears_steady : (b : ℕ) → Steady Any (Hears b)
hears_steady b = record { ran = ran-hears b; kept = λ rec a e x. x; began = λ a q x. x; set = λ s a x. x }

pub heard_by-load : HeardByLoad
unfolding EachNoLoad
heard_by-load i areas before calls small f =
    let h = after (new areas) before in
    let w = eight_after (new areas) before (eight_new areas) in
    steady_after (Hears (heard_at_of h.desk i)) (hears_steady (heard_at_of h.desk i)) i small h calls w (along_of next (NoLoad i) h calls f) refl

pub heard_of_source : HeardOfSource
heard_of_source i areas calls rec small z = (noted_all i small areas calls).heard rec z
