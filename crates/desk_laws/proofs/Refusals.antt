-- A refused call changes nothing; 15 comes first, and then 12. Assumes nothing.
use mathlib.Core.Path.{◌≡◌, refl, sym, ap, ◌∙◌}
use mathlib.Core.Bool.{Bool, true, false, cond}
use mathlib.Core.List.{List, []}
use Prim.Native.Nat.{ℕ, zero, suc, ◌≤◌}
use native.Mathlib.Omega.{arith}
use borrow.Author.Tests.{eqb-true, lt-ltb}
use lib.Dec.{eqb}
use lib.IntN.{ℤ}
use Rattle.refusals.specs.Refusals.{first}
use Rattle.engine.specs.Load.{load_refusal_of}
use Rattle.engine.specs.Run.{run_refusal_of}
use Rattle.engine.specs.Fetch.{fetch_refusal_of}
use Rattle.desk.specs.Desk.{job_at_of, left_at_of}
use Rattle.desk.specs.Roles.{may_operate_of, may_fetch_of, may_hear_of, role_test, admission_test}
use Rattle.desk.specs.HandIn.{hand_in_refusal_of, must_wait_of, hand_in_by, hand_in_of}
use Rattle.desk.specs.Run.{count_test, desk_run_refusal, desk_run_done, desk_run_by, desk_run_of}
use Rattle.desk.specs.Fetch.{desk_fetch_refusal, brings, desk_fetch_by, desk_fetch_of}
use Rattle.desk.specs.Heard.{desk_heard_by, desk_heard_of}
use Rattle.desk.specs.Rounds.{begin_by, begin_of}
use Rattle.desk.specs.Shares.{shares_test, set_shares_refusal_of, set_shares_by, set_shares_of}
use Rattle.desk_laws.specs.Calls.{Lent, Call, hand_in, run, fetch, heard, begin, set_shares, Hub, lent_words, left_in, put, Answer, bare, answer, next, Accepted}
use Rattle.desk_laws.specs.Refusals.{buffer_lent, words_lent, RefusalsChangeNothing, FifteenFirst, TwelveFirst}
use Rattle.desk_laws.proofs.Seats.{left_same, hand_hub, run_hub, fetch_hub, hand_told, run_told, fetch_told, heard_told}

pub put_back : (h : Hub) (j : ℕ) (lent : Lent) (k : ℕ) → put h.area j (left_in false (h.area j) lent (lent_words (h.area j) lent)) k ≡ h.area k
unfolding put
put_back h j lent k = pick (eqb k j) (eqb-true k j)
  where
    pick : (b : Bool) → (b ≡ true → k ≡ j) → cond b (left_in false (h.area j) lent (lent_words (h.area j) lent)) (h.area k) ≡ h.area k
    pick true f = left_same (h.area j) lent ∙ ap h.area (sym (f refl))
    pick false f = refl

-- the hub and the answer after a call, by the number that decides
record Same (h g : Hub) (a : Answer) (buffer : List ℕ) (words : List ℤ) : Type 0 where
  desk : g.desk ≡ h.desk
  area : (i : ℕ) → g.area i ≡ h.area i
  told : a ≡ bare a.number buffer words

module _ (h : Hub) (i : ℕ) (lent : Lent) where
  hand_same : (rec : List ℕ) (n : ℕ) (must : Bool) → ((hand_told h i rec lent n must).number ≡ 0 → ⊥)
      → Same h (hand_hub h i rec lent n must) (hand_told h i rec lent n must) [] (lent_words (h.area i) lent)
  unfolding hand_in_by
  hand_same rec zero true f = absurd (f refl)
  hand_same rec zero false f = absurd (f refl)
  hand_same rec (suc n) must f = record { desk = refl; area = put_back h i lent; told = refl }

  run_same : (request n : ℕ) → ((run_told h i request lent n).number ≡ 0 → ⊥) → Same h (run_hub h i request lent n) (run_told h i request lent n) [] (lent_words (h.area i) lent)
  unfolding desk_run_by desk_run_done
  run_same request zero f = absurd (f refl)
  run_same request (suc n) f = record { desk = refl; area = put_back h i lent; told = refl }

  fetch_same : (buffer : List ℕ) (n : ℕ) (brought : Bool) → ((fetch_told h i buffer lent n brought).number ≡ 0 → ⊥)
      → Same h (fetch_hub h i buffer lent n brought) (fetch_told h i buffer lent n brought) buffer (lent_words (h.area i) lent)
  unfolding desk_fetch_by
  fetch_same buffer zero brought f = absurd (f refl)
  fetch_same buffer (suc n) brought f = record { desk = refl; area = put_back h i lent; told = refl }

heard_same : (h : Hub) (i n : ℕ) → ((heard_told h i n).number ≡ 0 → ⊥) → Same h (record { desk = (desk_heard_by n h.desk i).desk; area = h.area }) (heard_told h i n) [] []
unfolding desk_heard_by
heard_same h i zero f = absurd (f refl)
heard_same h i (suc n) f = record { desk = refl; area = λ k. refl; told = refl }

set_same : (h : Hub) (shares : List ℕ) (n : ℕ) → ((set_shares_by n h.desk shares).number ≡ 0 → ⊥)
    → Same h (record { desk = (set_shares_by n h.desk shares).desk; area = h.area }) (bare (set_shares_by n h.desk shares).number [] []) [] []
unfolding set_shares_by
set_same h shares zero f = absurd (f refl)
set_same h shares (suc n) f = record { desk = refl; area = λ k. refl; told = refl }

begin_same : (h : Hub) (n : ℕ) → ((begin_by n h.desk).number ≡ 0 → ⊥) → Same h (record { desk = (begin_by n h.desk).desk; area = h.area }) (bare (begin_by n h.desk).number [] []) [] []
unfolding begin_by
begin_same h zero f = absurd (f refl)
begin_same h (suc n) f = record { desk = refl; area = λ k. refl; told = refl }

same_by : (h : Hub) (c : Call) → (Accepted h c → ⊥) → Same h (next h c) (answer h c) (buffer_lent c) (words_lent h c)
unfolding next answer hand_in_of desk_run_of desk_fetch_of desk_heard_of begin_of set_shares_of
same_by h (hand_in role i rec lent) f = hand_same h i lent rec (hand_in_refusal_of role i rec (lent_words (h.area i) lent)) (must_wait_of h.desk i) f
same_by h (run role i request lent) f = run_same h i lent request (desk_run_refusal role h.desk i request (lent_words (h.area i) lent)) f
same_by h (fetch role i buffer lent) f = fetch_same h i lent buffer (desk_fetch_refusal role h.desk i (lent_words (h.area i) lent) buffer) (brings role h.desk i) f
same_by h (heard role i) f = heard_same h i (admission_test (may_hear_of role) i) f
same_by h (begin role) f = begin_same h (role_test (may_operate_of role)) f
same_by h (set_shares role shares eight) f = set_same h shares (set_shares_refusal_of role shares) f

pub refusals_change_nothing : RefusalsChangeNothing
refusals_change_nothing h c f =
    let s = same_by h c f in
    record {
      desk = s.desk;
      area = s.area;
      answer = s.told;
    }

-- ---- a role that may not, and a sector above 7

-- each call by the number of the two tests ahead of all others, which comes first
module _ (h : Hub) (i : ℕ) where
  hand_first : (role : ℕ) (rec : List ℕ) (lent : Lent) (n : ℕ) → admission_test (may_operate_of role) i ≡ suc n → (answer h (hand_in role i rec lent)).number ≡ suc n
  unfolding answer hand_in_of hand_in_refusal_of hand_in_by
  hand_first role rec lent n z = ap (λ (t : ℕ). (hand_told h i rec lent (first t (load_refusal_of rec (lent_words (h.area i) lent))) (must_wait_of h.desk i)).number) z

  run_first : (role request : ℕ) (lent : Lent) (n : ℕ) → admission_test (may_operate_of role) i ≡ suc n → (answer h (run role i request lent)).number ≡ suc n
  unfolding answer desk_run_of desk_run_refusal desk_run_by
  run_first role request lent n z =
      let l = lent_words (h.area i) lent in
      let job = job_at_of h.desk i in
      ap (λ (t : ℕ). (run_told h i request lent (first t (first (run_refusal_of job l) (count_test job (left_at_of h.desk i) request)))).number) z

  fetch_first : (role : ℕ) (buffer : List ℕ) (lent : Lent) (n : ℕ) → admission_test (may_fetch_of role) i ≡ suc n → (answer h (fetch role i buffer lent)).number ≡ suc n
  unfolding answer desk_fetch_of desk_fetch_refusal desk_fetch_by
  fetch_first role buffer lent n z =
      let l = lent_words (h.area i) lent in
      ap (λ (t : ℕ). (fetch_told h i buffer lent (first t (fetch_refusal_of (job_at_of h.desk i) l buffer)) (brings role h.desk i)).number) z

  heard_first : (role n : ℕ) → admission_test (may_hear_of role) i ≡ suc n → (answer h (heard role i)).number ≡ suc n
  unfolding answer desk_heard_of desk_heard_by
  heard_first role n z = ap (λ (t : ℕ). (heard_told h i t).number) z

-- a role that may not
kept_out : (may : Bool) (i : ℕ) → may ≡ false → admission_test may i ≡ 15
kept_out may i e = ap (λ (b : Bool). admission_test b i) e

pub fifteen_first : FifteenFirst
unfolding answer begin_of begin_by set_shares_of set_shares_refusal_of set_shares_by
fifteen_first h role =
    record {
      hand_in = λ e i rec lent. hand_first h i role rec lent 14 (kept_out (may_operate_of role) i e);
      run = λ e i request lent. run_first h i role request lent 14 (kept_out (may_operate_of role) i e);
      fetch = λ e i buffer lent. fetch_first h i role buffer lent 14 (kept_out (may_fetch_of role) i e);
      heard = λ e i. heard_first h i role 14 (kept_out (may_hear_of role) i e);
      begin = λ e. ap (λ (b : Bool). (begin_by (role_test b) h.desk).number) e;
      set_shares_lem = λ e shares eight. ap (λ (b : Bool). (set_shares_by (first (role_test b) (shares_test shares)) h.desk shares).number) e;
    }

-- a sector that is none, for a role that may
no_sector : (may : Bool) (i : ℕ) → 8 ≤ i → may ≡ true → admission_test may i ≡ 12
no_sector may i above e = ap (λ (b : Bool). admission_test b i) e ∙ rw (lt-ltb 7 i (omega arith))

pub twelve_first : TwelveFirst
twelve_first h i above =
    record {
      hand_in = λ role rec lent e. hand_first h i role rec lent 11 (no_sector (may_operate_of role) i above e);
      run = λ role request lent e. run_first h i role request lent 11 (no_sector (may_operate_of role) i above e);
      fetch = λ role buffer lent e. fetch_first h i role buffer lent 11 (no_sector (may_fetch_of role) i above e);
      heard = λ role e. heard_first h i role 11 (no_sector (may_hear_of role) i above e);
    }
