-- What a sector was granted in the round and what it has left make the share that it had when the round began, and the shares of all never make more than
-- 120. Assumes nothing.
use mathlib.Core.Path.{◌≡◌, refl, sym, ap, subst}
use mathlib.Core.Bool.{Bool, true, false, cond}
use mathlib.Core.List.{List, [], ◌∷◌}
use Prim.Native.Nat.{ℕ, zero, suc, ◌+◌, ◌≤◌, ◌<◌}
use native.Mathlib.Omega.{arith}
use borrow.Author.Tests.{ltb-false}
use lib.Dec.{ltb, eqb, lit≤}
use lib.IntN.{ℤ}
use lib.ListN.{get_or, get_or-replicate}
use Rattle.integers.specs.Sum.{total}
use Rattle.integers.proofs.Sum.{total_same, total_mono}
use Rattle.lists.specs.Histories.{after_all}
use Rattle.refusals.proofs.Refusals.{first-none, if_passed}
use Rattle.engine.specs.Run.{run_done}
use Rattle.desk.specs.declared.Desk.{Desk}
use Rattle.desk.specs.Desk.{share_at, left_at_of}
use Rattle.desk.specs.Roles.{may_operate_of, may_hear_of, role_test, admission_test}
use Rattle.desk.specs.HandIn.{hand_in_refusal_of, must_wait_of, hand_in_by, hand_in_of}
use Rattle.desk.specs.Run.{desk_run_refusal, desk_run_done, desk_run_by, desk_run_of}
use Rattle.desk.specs.Fetch.{desk_fetch_refusal, brings, desk_fetch_by, desk_fetch_of}
use Rattle.desk.specs.Heard.{desk_heard_of}
use Rattle.desk.specs.Rounds.{begin_by, begin_of}
use Rattle.desk.specs.Shares.{total_of, set_shares_refusal_of, set_shares_by, set_shares_of}
use Rattle.desk_laws.specs.Calls.{Lent, Call, hand_in, run, fetch, heard, begin, set_shares, Hub, new, lent_words, Answer, answer, next, after, Kind, own, other, round, setting, own_or, round_by, setting_by, kind}
use Rattle.desk_laws.specs.Rounds.{tallied, granted_in, starting_at, starting_in, granted_so_far, starting_share, RoundTotal}
use Rattle.desk_laws.proofs.Seats.{Seat, seat, Eight, hand_seat, run_seat, fetch_seat, hand_number, seat_must_wait, run_number, fetch_number, seat_brings, seat_grant, own_next, hand_answer, run_answer, fetch_answer, heard_answer, own_answer, own_answer_lem, hand_hub, run_hub, fetch_hub, heard_desk, step, seat_next, eight_next, eight_new}

-- ---- a sector by itself: each call that grants takes as much from its count

hand_paid : (a : Seat) (rec : List ℕ) (lent : Lent) (l : List ℤ) (n : ℕ) (must : Bool) → (hand_answer n must a rec l).count + (hand_seat n must a rec lent).left ≡ a.left
hand_paid a rec lent l zero true = omega arith
hand_paid a rec lent l zero false = omega arith
hand_paid a rec lent l (suc n) must = omega arith

run_paid : (a : Seat) (request : ℕ) (lent : Lent) (l : List ℤ) (n : ℕ) → (run_answer n a.job (seat_grant a request) l).count + (run_seat n a (seat_grant a request) lent).left ≡ a.left
unfolding run_done
run_paid a request lent l zero = omega arith
run_paid a request lent l (suc n) = omega arith

fetch_paid : (a : Seat) (buffer : List ℕ) (lent : Lent) (l : List ℤ) (n : ℕ) (brought : Bool) → (fetch_answer n brought a.waiting l buffer).count + (fetch_seat n brought a lent).left ≡ a.left
fetch_paid a buffer lent l zero true = omega arith
fetch_paid a buffer lent l zero false = omega arith
fetch_paid a buffer lent l (suc n) brought = omega arith

heard_paid : (n : ℕ) (a : Seat) → (heard_answer n a.heard).count + a.left ≡ a.left
heard_paid zero a = omega arith
heard_paid (suc n) a = omega arith

own_paid : (a : Seat) (c : Call) → (own_answer a c).count + (own_next a c).left ≡ a.left
own_paid a (hand_in role j rec lent) = hand_paid a rec lent (lent_words a.area lent) (hand_number role a rec lent) (seat_must_wait a)
own_paid a (run role j request lent) = run_paid a request lent (lent_words a.area lent) (run_number role a request lent)
own_paid a (fetch role j buffer lent) = fetch_paid a buffer lent (lent_words a.area lent) (fetch_number role a buffer lent) (seat_brings role a)
own_paid a (heard role j) = heard_paid (role_test (may_hear_of role)) a
own_paid a (begin role) = omega arith
own_paid a (set_shares role shares eight) = omega arith

module _ (i : ℕ) (small : i < 8) where
  by_kind : (h : Hub) (c : Call) (granted start : ℕ) (k : Kind) → kind i c ≡ k → Eight h.desk → granted + (seat i h).left ≡ start
      → tallied k granted (answer h c).count + (step k c (seat i h)).left ≡ starting_at k start (share_at h.desk i)
  by_kind h c granted start own e w sum =
      let x = own_paid (seat i h) c in
      let y = ap (λ (r : Answer). r.count) (own_answer_lem h i small w c e) in
      omega (arith, sum, x, y)
  by_kind h c granted start other e w sum = sum
  by_kind h c granted start round e w sum = omega arith
  by_kind h c granted start (setting s) e w sum = sum

  paid-after : (h : Hub) (granted start : ℕ) (calls : List Call) → Eight h.desk → granted + left_at_of h.desk i ≡ start
      → granted_in i h granted calls + left_at_of (after h calls).desk i ≡ starting_in i h start calls
  unfolding granted_in starting_in after_all
  paid-after h granted start [] w sum = sum
  paid-after h granted start (c ∷ calls) w sum =
      let k = kind i c in
      let t = tallied k granted (answer h c).count in
      let u = starting_at k start (share_at h.desk i) in
      paid-after (next h c) t u calls (eight_next h c w)
      (subst (λ (a : Seat). t + a.left ≡ u) (sym (seat_next h i small w c)) (by_kind h c granted start k refl w sum))

-- ---- the shares of all

record Within120 (d : Desk) (start : ℕ → ℕ) : Type 0 where
  shares : total_of d.shares ≤ 120
  starting : total 8 start ≤ 120

-- a call that begins no round leaves what the round began with
same_own : (i j start share : ℕ) → starting_at (own_or i j) start share ≡ start
same_own i j start share = pick (eqb j i)
  where
    pick : (b : Bool) → starting_at (cond b own other) start share ≡ start
    pick true = refl
    pick false = refl

same_set : (n s start share : ℕ) → starting_at (setting_by n s) start share ≡ start
same_set zero s start share = refl
same_set (suc n) s start share = refl

module _ (d d' : Desk) (start : ℕ → ℕ) (x : Within120 d start) where
  -- new shares, and the same at each sector's start
  within_same : total_of d'.shares ≤ 120 → (f : ℕ → ℕ) → ((i : ℕ) → f i ≡ start i) → Within120 d' f
  within_same s f same = record { shares = s; starting = subst (λ (n : ℕ). n ≤ 120) (sym (total_same 8 f start (λ i p. same i))) x.starting }

hand_shares : (h : Hub) (j : ℕ) (rec : List ℕ) (lent : Lent) (n : ℕ) (must : Bool) → (hand_hub h j rec lent n must).desk.shares ≡ h.desk.shares
unfolding hand_in_by
hand_shares h j rec lent zero true = refl
hand_shares h j rec lent zero false = refl
hand_shares h j rec lent (suc n) must = refl

run_shares : (h : Hub) (j request : ℕ) (lent : Lent) (n : ℕ) → (run_hub h j request lent n).desk.shares ≡ h.desk.shares
unfolding desk_run_by desk_run_done
run_shares h j request lent zero = refl
run_shares h j request lent (suc n) = refl

fetch_shares : (h : Hub) (j : ℕ) (buffer : List ℕ) (lent : Lent) (n : ℕ) (brought : Bool) → (fetch_hub h j buffer lent n brought).desk.shares ≡ h.desk.shares
unfolding desk_fetch_by
fetch_shares h j buffer lent zero true = refl
fetch_shares h j buffer lent zero false = refl
fetch_shares h j buffer lent (suc n) brought = refl

set_shares-total : (d : Desk) (shares : List ℕ) (n : ℕ) → (n ≡ 0 → total_of shares ≤ 120) → total_of d.shares ≤ 120 → total_of (set_shares_by n d shares).desk.shares ≤ 120
unfolding set_shares_by
set_shares-total d shares zero f x = f refl
set_shares-total d shares (suc n) f x = x

set_passed : (role : ℕ) (shares : List ℕ) → set_shares_refusal_of role shares ≡ 0 → total_of shares ≤ 120
unfolding set_shares_refusal_of
set_passed role shares e = ltb-false 120 (total_of shares) (if_passed (ltb 120 (total_of shares)) 13 (first-none (role_test (may_operate_of role)) _ e).1)

within_begin : (h : Hub) (start : ℕ → ℕ) → Within120 h.desk start → (n : ℕ) → Within120 (begin_by n h.desk).desk (λ i. starting_at (round_by n) (start i) (share_at h.desk i))
unfolding begin_by
within_begin h start x zero = record { shares = x.shares; starting = x.shares }
within_begin h start x (suc n) = record { shares = x.shares; starting = x.starting }

within_next : (h : Hub) (c : Call) (start : ℕ → ℕ) → Within120 h.desk start → Within120 (next h c).desk (λ i. starting_at (kind i c) (start i) (share_at h.desk i))
unfolding next hand_in_of desk_run_of desk_fetch_of desk_heard_of begin_of set_shares_of
within_next h (hand_in role j rec lent) start x =
    let e = hand_shares h j rec lent (hand_in_refusal_of role j rec (lent_words (h.area j) lent)) (must_wait_of h.desk j) in
    within_same h.desk _ start x (subst (λ (l : List ℕ). total_of l ≤ 120) (sym e) x.shares) _ (λ i. same_own i j (start i) (share_at h.desk i))
within_next h (run role j request lent) start x =
    let e = run_shares h j request lent (desk_run_refusal role h.desk j request (lent_words (h.area j) lent)) in
    within_same h.desk _ start x (subst (λ (l : List ℕ). total_of l ≤ 120) (sym e) x.shares) _ (λ i. same_own i j (start i) (share_at h.desk i))
within_next h (fetch role j buffer lent) start x =
    let e = fetch_shares h j buffer lent (desk_fetch_refusal role h.desk j (lent_words (h.area j) lent) buffer) (brings role h.desk j) in
    within_same h.desk _ start x (subst (λ (l : List ℕ). total_of l ≤ 120) (sym e) x.shares) _ (λ i. same_own i j (start i) (share_at h.desk i))
within_next h (heard role j) start x =
    let e = heard_desk (admission_test (may_hear_of role) j) h.desk j in
    within_same h.desk _ start x (subst (λ (d : Desk). total_of d.shares ≤ 120) (sym e) x.shares) _ (λ i. same_own i j (start i) (share_at h.desk i))
within_next h (begin role) start x = within_begin h start x (role_test (may_operate_of role))
within_next h (set_shares role shares eight) start x =
    let n = set_shares_refusal_of role shares in
    within_same h.desk _ start x (set_shares-total h.desk shares n (set_passed role shares) x.shares) _ (λ i. same_set n (get_or shares i 0) (start i) (share_at h.desk i))

within_after : (h : Hub) (calls : List Call) (start : ℕ → ℕ) → Within120 h.desk start → Within120 (after h calls).desk (λ i. starting_in i h (start i) calls)
unfolding after_all starting_in
within_after h [] start x = x
within_after h (c ∷ calls) start x = within_after (next h c) calls (λ i. starting_at (kind i c) (start i) (share_at h.desk i)) (within_next h c start x)

at_first : (areas : ℕ → List ℤ) → Within120 (new areas).desk (λ i. 15)
unfolding total
at_first areas = record { shares = lit≤ tt; starting = lit≤ tt }

first-left : (areas : ℕ → List ℤ) (i : ℕ) → i < 8 → 0 + left_at_of (new areas).desk i ≡ 15
first-left areas i small = let z : left_at_of (new areas).desk i ≡ 15 = get_or-replicate 8 i 15 0 small in omega (arith, z)

pub round-total : RoundTotal
round-total areas calls =
    let x = within_after (new areas) calls (λ i. 15) (at_first areas) in
    let own_share : (i : ℕ) → i < 8 → granted_so_far i areas calls + left_at_of (after (new areas) calls).desk i ≡ starting_share i areas calls =
    λ i small. paid-after i small (new areas) 0 15 calls (eight_new areas) (first-left areas i small) in
    let few = total_mono 8 (λ i. granted_so_far i areas calls) (λ i. starting_share i areas calls) (λ i small. omega (arith, own_share i small)) in
    record {
      own_share = own_share;
      most = omega (arith, few, x.starting);
      starting = x.starting;
      shares = x.shares;
    }
