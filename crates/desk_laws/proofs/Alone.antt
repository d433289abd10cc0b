-- A sector is as if it had run alone with the turns granted. Assumes nothing.
use mathlib.Core.Path.{◌≡◌, refl, sym, ap, ap₂, ◌∙◌}
use mathlib.Core.Bool.{Bool, true, false, not}
use mathlib.Core.List.{List, [], ◌∷◌, ◌++◌}
use Prim.Native.Nat.{ℕ, zero, suc, ◌<◌}
use native.Mathlib.Omega.{arith}
use Rattle.lists.specs.Histories.{after_all}
use Rattle.lists.proofs.Histories.{after_append, Along, along_of}
use Rattle.engine.specs.Load.{load_refusal_of, load_by, load_of}
use Rattle.engine.specs.Run.{run_done}
use Rattle.engine.proofs.Accepted.{fetch_accepted}
use Rattle.desk.specs.Roles.{may_hear_of, role_test}
use Rattle.engine.proofs.Taken.{all_taken}
use Rattle.desk_laws.specs.Calls.{Lent, its, another, Call, hand_in, run, fetch, heard, begin, set_shares, Hub, new, lent_words, loads_if, loads, Answer, answer, next, after, Accepted, Kind, own, other, round, setting, kind, Its, LentIts, OwnLent, EachLentIts}
use Rattle.desk_laws.specs.Ledger.{Handed, Ledger, fresh, if_accepted, noted}
use Rattle.desk_laws.specs.Alone.{Alone, loading, alone_next, alone_after, load_work, works_of, works, standing, AsAlone}
use Rattle.desk_laws.proofs.Seats.{Seat, seat, Eight, loaded_seat, hand_seat, run_seat, fetch_seat, hand_number, seat_must_wait, run_number, fetch_number, seat_brings, seat_grant, hand_passed, run_passed, fetch_passed, brought_waits, own_next, own_loads, hand_answer, run_answer, fetch_answer, heard_answer, own_answer, step, seat_next, own_answer_lem, own_loads_lem, eight_next, eight_new}
use Rattle.desk_laws.proofs.Ledgers.{Noted, own_entry, noted-next, noted-new}

abbrev pub alone_of : Seat → Alone
alone_of a = record { job = a.job; heard = a.heard; area = a.area }

-- the engine's Load of a record that it accepts
loaded_alone_lem : (a : Seat) (rec : List ℕ) → load_refusal_of rec a.area ≡ 0 → alone_of (loaded_seat a rec a.area) ≡ alone_after (alone_of a) (loading rec ∷ [])
unfolding after_all alone_next load_of load_by
loaded_alone_lem a rec e = rw e

module _ (a : Seat) (g : Ledger) (x : Noted g a) where
  -- a hand-in, which is loaded or waits
  hand_alone : (role j : ℕ) (rec : List ℕ) (lent : Lent) (n : ℕ) (must : Bool) → hand_number role a rec lent ≡ n
      → (let r = hand_answer n must a rec (lent_words a.area lent) in
      let c = hand_in role j rec lent in
      let b = loads_if n (not must) in
      (r.number ≡ 0 → Its lent) → alone_of (hand_seat n must a rec lent) ≡ alone_after (alone_of a) (works_of own r.number b (if_accepted r.number b c g).source c r.count))
  unfolding after_all
  hand_alone role j rec lent zero true e u = refl
  hand_alone role j rec its zero false e u = loaded_alone_lem a rec (hand_passed role a rec its e)
  hand_alone role j rec (another m) zero false e u = absurd (u refl)
  hand_alone role j rec lent (suc n) must e u = refl

  -- its Run with turns that the job has left
  run_alone : (role j request : ℕ) (lent : Lent) (n : ℕ) → run_number role a request lent ≡ n
      → (let r = run_answer n a.job (seat_grant a request) (lent_words a.area lent) in
      let c = run role j request lent in
      (r.number ≡ 0 → Its lent) → alone_of (run_seat n a (seat_grant a request) lent) ≡ alone_after (alone_of a) (works_of own r.number false (if_accepted r.number false c g).source c r.count))
  unfolding after_all alone_next run_done
  run_alone role j request its zero e u =
      rw (all_taken a.job (seat_grant a request) a.area (run_passed role a request its e) (omega arith))
  run_alone role j request (another m) zero e u = absurd (u refl)
  run_alone role j request lent (suc n) e u = refl

  -- its Fetch, which is no work but for the Load of the one that waits
  fetch_alone : (role j : ℕ) (buffer : List ℕ) (lent : Lent) (n : ℕ) (brought : Bool) → fetch_number role a buffer lent ≡ n → (brought ≡ true → a.waits ≡ true)
      → (let r = fetch_answer n brought a.waiting (lent_words a.area lent) buffer in
      let c = fetch role j buffer lent in
      let b = loads_if n brought in
      (r.number ≡ 0 → Its lent) → alone_of (fetch_seat n brought a lent) ≡ alone_after (alone_of a) (works_of own r.number b (if_accepted r.number b c g).source c r.count))
  unfolding after_all
  fetch_alone role j buffer its zero true e f u =
      let w = x.waiting (f refl) in
      loaded_alone_lem a a.waiting (w.passes a.area (fetch_accepted a.job a.area buffer (fetch_passed role a buffer its e).1).room)
      ∙ ap (λ (m : Handed). alone_after (alone_of a) (load_work true m ++ [])) (sym w.handed)
  fetch_alone role j buffer (another m) zero true e f u = absurd (u refl)
  fetch_alone role j buffer lent zero false e f u = refl
  fetch_alone role j buffer lent (suc n) brought e f u = refl

  heard_alone : (role j n : ℕ)
      → (let r = heard_answer n a.heard in
      let c = heard role j in
      alone_of a ≡ alone_after (alone_of a) (works_of own r.number false (if_accepted r.number false c g).source c r.count))
  unfolding after_all
  heard_alone role j zero = refl
  heard_alone role j (suc n) = refl

  own_alone : (c : Call) → ((own_answer a c).number ≡ 0 → LentIts c)
      → alone_of (own_next a c) ≡ alone_after (alone_of a) (works_of own (own_answer a c).number (own_loads a c) (if_accepted (own_answer a c).number (own_loads a c) c g).source c (own_answer a c).count)
  unfolding after_all
  own_alone (hand_in role j rec lent) u = hand_alone role j rec lent (hand_number role a rec lent) (seat_must_wait a) refl u
  own_alone (run role j request lent) u = run_alone role j request lent (run_number role a request lent) refl u
  own_alone (fetch role j buffer lent) u = fetch_alone role j buffer lent (fetch_number role a buffer lent) (seat_brings role a) refl (brought_waits role a) u
  own_alone (heard role j) u = heard_alone role j (role_test (may_hear_of role))
  own_alone (begin role) u = refl
  own_alone (set_shares role shares eight) u = refl

module _ (i : ℕ) (small : i < 8) where
  by_kind : (h : Hub) (c : Call) (g : Ledger) (k : Kind) → kind i c ≡ k → Eight h.desk → Noted g (seat i h) → (k ≡ own → Accepted h c → LentIts c)
      → alone_of (step k c (seat i h)) ≡ alone_after (standing i h) (works_of k (answer h c).number (loads h c) (noted i h c g).source c (answer h c).count)
  unfolding after_all
  by_kind h c g own e w x u =
      let a = seat i h in
      let r = own_answer_lem h i small w c e in
      own_alone a g x c (λ z. u refl (ap (λ (y : Answer). y.number) r ∙ z))
      ∙ ap₂ (λ (y : Answer) (b : Bool). alone_after (standing i h) (works_of own y.number b (if_accepted (own_answer a c).number (own_loads a c) c g).source c y.count)) (sym r) (sym (own_loads_lem h i small w c e))
      ∙ ap (λ (m : Ledger). alone_after (standing i h) (works_of own (answer h c).number (loads h c) m.source c (answer h c).count)) (sym (own_entry i small h c g w e))
  by_kind h c g other e w x u = refl
  by_kind h c g round e w x u = refl
  by_kind h c g (setting s) e w x u = refl

  alone_after_lem : (h : Hub) (g : Ledger) (calls : List Call) → Eight h.desk → Noted g (seat i h) → Along next (OwnLent i) h calls
      → standing i (after h calls) ≡ alone_after (standing i h) (works i h g calls)
  unfolding after_all works Along
  alone_after_lem h g [] w x u = refl
  alone_after_lem h g (c ∷ calls) w x u =
      let n = noted i h c g in
      let now = works_of (kind i c) (answer h c).number (loads h c) n.source c (answer h c).count in
      alone_after_lem (next h c) n calls (eight_next h c w) (noted-next i small h c g w x) u.1
      ∙ ap (λ (a : Alone). alone_after a (works i (next h c) n calls)) (ap alone_of (seat_next h i small w c) ∙ by_kind h c g (kind i c) refl w x u.0)
      ∙ sym (after_append alone_next (standing i h) now (works i (next h c) n calls))

pub as_alone : AsAlone
unfolding EachLentIts
as_alone i areas calls small u =
    alone_after_lem i small (new areas) fresh calls (eight_new areas) (noted-new i small areas) (along_of next (OwnLent i) (new areas) calls u)
