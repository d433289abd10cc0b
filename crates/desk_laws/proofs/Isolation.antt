-- What concerns a sector decides what its calls are answered and how it stands, whatever the others do. Assumes nothing.
use mathlib.Core.Path.{◌≡◌, refl, sym, ap, ap₂, ◌∙◌}
use mathlib.Core.Bool.{Bool, true, false}
use mathlib.Core.List.{List, [], ◌∷◌, ◌++◌, append_assoc, append-nil}
use Prim.Native.Nat.{ℕ, ◌<◌}
use borrow.Author.Tests.{ne_eqb, lt-ltb, le-ltb}
use Rattle.lists.specs.Histories.{after_all, Place}
use lib.ListN.{get_or}
use Rattle.refusals.specs.Refusals.{first}
use Rattle.desk.specs.Roles.{may_operate_of, role_test}
use Rattle.desk.specs.Shares.{total_of, shares_test, set_shares_refusal_of}
use Rattle.desk_laws.specs.Calls.{Call, Hub, new, Answer, answer, next, after, Kind, own, other, round, setting, own_or, round_by, setting_by, kind}
use Rattle.desk_laws.specs.Isolation.{Seen, mine, begins, given, seen_at, view, told, answers, Isolation, WithoutOthers, OthersUnseen, OwnShareSeen}
use Rattle.desk_laws.proofs.Seats.{Seat, seat, Eight, own_next, own_answer, own_answer_lem, refilled, sharing, step, seat_next, eight_next, eight_new}
use Rattle.desk_laws.proofs.Alone.{alone_of}

-- the sector after what it sees, and what its calls are answered, by itself
seen_seat : Seat → List Seen → Seat
seen_seat a [] = a
seen_seat a (mine c ∷ v) = seen_seat (own_next a c) v
seen_seat a (begins ∷ v) = seen_seat (refilled a) v
seen_seat a (given s ∷ v) = seen_seat (sharing a s) v

seen_answers : Seat → List Seen → List Answer
seen_answers a [] = []
seen_answers a (mine c ∷ v) = own_answer a c ∷ seen_answers (own_next a c) v
seen_answers a (begins ∷ v) = seen_answers (refilled a) v
seen_answers a (given s ∷ v) = seen_answers (sharing a s) v

seen_step : (k : Kind) (c : Call) (a : Seat) (v : List Seen) → seen_seat (step k c a) v ≡ seen_seat a (seen_at k c ++ v)
unfolding seen_seat
seen_step own c a v = refl
seen_step other c a v = refl
seen_step round c a v = refl
seen_step (setting s) c a v = refl

module _ (i : ℕ) (small : i < 8) where
  seat_is : (h : Hub) (calls : List Call) → Eight h.desk → seat i (after h calls) ≡ seen_seat (seat i h) (view i calls)
  unfolding view after_all seen_seat
  seat_is h [] w = refl
  seat_is h (c ∷ calls) w =
      seat_is (next h c) calls (eight_next h c w) ∙ ap (λ (a : Seat). seen_seat a (view i calls)) (seat_next h i small w c)
      ∙ seen_step (kind i c) c (seat i h) (view i calls)

  told_by : (h : Hub) (c : Call) (r : List Answer) (v : List Seen) (k : Kind) → Eight h.desk → kind i c ≡ k → r ≡ seen_answers (step k c (seat i h)) v
      → told k (answer h c) r ≡ seen_answers (seat i h) (seen_at k c ++ v)
  unfolding seen_answers
  told_by h c r v own w e ih = ap₂ (λ (x : Answer) (y : List Answer). x ∷ y) (own_answer_lem h i small w c e) ih
  told_by h c r v other w e ih = ih
  told_by h c r v round w e ih = ih
  told_by h c r v (setting s) w e ih = ih

  answers_are : (h : Hub) (calls : List Call) → Eight h.desk → answers i h calls ≡ seen_answers (seat i h) (view i calls)
  unfolding view answers seen_answers
  answers_are h [] w = refl
  answers_are h (c ∷ calls) w =
      told_by h c (answers i (next h c) calls) (view i calls) (kind i c) w refl
      (answers_are (next h c) calls (eight_next h c w) ∙ ap (λ (a : Seat). seen_answers a (view i calls)) (seat_next h i small w c))

pub isolation : Isolation
isolation i areas areas' calls calls' small same seen =
    let w = eight_new areas in
    let w' = eight_new areas' in
    let z : seat i (new areas) ≡ seat i (new areas') = rw same in
    let s = seat_is i small (new areas) calls w ∙ ap₂ seen_seat z seen ∙ sym (seat_is i small (new areas') calls' w') in
    record {
      answered = answers_are i small (new areas) calls w ∙ ap₂ seen_answers z seen ∙ sym (answers_are i small (new areas') calls' w');
      stands = ap alone_of s;
      share = ap (λ (a : Seat). a.share) s;
      left = ap (λ (a : Seat). a.left) s;
      waits = ap (λ (a : Seat). a.waits) s;
      waiting = ap (λ (a : Seat). a.waiting) s;
    }

-- ---- what is not seen

view_append : (i : ℕ) (a b : List Call) → view i (a ++ b) ≡ view i a ++ view i b
unfolding view
view_append i [] b = refl
view_append i (c ∷ a) b = ap (λ (v : List Seen). seen_at (kind i c) c ++ v) (view_append i a b) ∙ sym (append_assoc (seen_at (kind i c) c) (view i a) (view i b))

none_seen : (i : ℕ) (calls : List Call) → ((c : Call) → Place c calls → kind i c ≡ other) → view i calls ≡ []
unfolding view
none_seen i [] f = refl
none_seen i (c ∷ calls) f =
    let now = f c (record { before = []; rest = calls; is = refl }) in
    ap (λ (k : Kind). seen_at k c ++ view i calls) now
    ∙ none_seen i calls (λ d p. f d (record { before = c ∷ p.before; rest = p.rest; is = ap (λ (t : List Call). c ∷ t) p.is }))

pub without_others : WithoutOthers
without_others i areas areas' before others rest small same f =
    isolation i areas areas' (before ++ others ++ rest) (before ++ rest) small same
    (view_append i (before ++ others) rest
    ∙ ap (λ (v : List Seen). v ++ view i rest) (view_append i before others ∙ ap (λ (v : List Seen). view i before ++ v) (none_seen i others f) ∙ append-nil (view i before))
    ∙ sym (view_append i before rest))

-- shares above 120 in total, whoever sets them
unset : (may : Bool) (n s : ℕ) → n ≡ 14 → setting_by (first (role_test may) n) s ≡ other
unset true n s e = ap (λ (k : ℕ). setting_by k s) e
unset false n s e = refl

pub others_unseen : OthersUnseen
unfolding set_shares_refusal_of
others_unseen i j d =
    let e : own_or i j ≡ other = rw (ne_eqb j i (λ q. d (sym q))) in
    record {
      hand_in = λ role rec lent. e;
      run = λ role request lent. e;
      fetch = λ role buffer lent. e;
      heard = λ role. e;
      refused = λ role shares eight above. unset (may_operate_of role) (shares_test shares) (get_or shares i 0) (rw (lt-ltb 120 (total_of shares) above));
      not_begun = λ role q. ap (λ (b : Bool). round_by (role_test b)) q;
      not_set = λ role shares eight q. ap (λ (b : Bool). setting_by (first (role_test b) (shares_test shares)) (get_or shares i 0)) q;
    }

pub own_share_seen : OwnShareSeen
unfolding set_shares_refusal_of
own_share_seen i shares eight fits = rw (le-ltb 120 (total_of shares) fits)
