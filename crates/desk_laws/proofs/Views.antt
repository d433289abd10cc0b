-- Who may see what: only the operator's calls change anything, and what the replies of others depend on. Assumes nothing.
use mathlib.Core.Path.{◌≡◌, refl, sym, ap, ap₂, ◌∙◌, subst}
use mathlib.Core.Bool.{Bool, true, false, not, ◌&&◌, ◌||◌}
use mathlib.Core.List.{List, [], ◌∷◌, map}
use Prim.Native.Nat.{ℕ, zero, suc, ◌≤◌, ◌<◌}
use native.Mathlib.Omega.{arith}
use borrow.Author.Tests.{ne_eqb, eqb-true, le-ltb}
use lib.Dec.{eqb, ltb}
use lib.IntN.{ℤ}
use lib.ListN.{get_or, get_or-replicate, get_or-map, set, replicate}
use Rattle.lists.specs.Histories.{after_all}
use Rattle.refusals.specs.Refusals.{first, fails_if, buffer_test}
use Rattle.refusals.proofs.Refusals.{first_pairs}
use Rattle.matrix_record.specs.MatrixRecord.{heard_byte_of}
use Rattle.result_record.specs.ResultRecord.{result_test}
use Rattle.workspace.specs.Workspace.{workspace_test, R}
use Rattle.engine.specs.declared.job.Job.{Job}
use Rattle.engine.specs.Job.{no_job, job_test, end_test}
use Rattle.engine.specs.Load.{load_refusal_of}
use Rattle.engine.specs.Fetch.{fetch_refusal_of, fetch_by}
use Rattle.accuracy.specs.Demand3.{Load}
use Rattle.desk.specs.declared.Desk.{Desk}
use Rattle.desk.specs.Desk.{unloaded_job, job_at_of, waits_at_of, new_desk}
use Rattle.desk.specs.Roles.{viewer, fitter, operator, may_operate_of, may_hear_of, admission_test}
use Rattle.desk.specs.HandIn.{hand_in_refusal_of, must_wait_of, hand_in_by, hand_in_of}
use Rattle.desk.specs.Run.{desk_run_refusal, desk_run_done, desk_run_by, desk_run_of}
use Rattle.desk.specs.Fetch.{desk_fetch_refusal, desk_fetch_by, desk_fetch_of}
use Rattle.desk.specs.Heard.{desk_heard_of}
use Rattle.desk.specs.Rounds.{begin_by, begin_of}
use Rattle.desk.specs.Shares.{set_shares_refusal_of, set_shares_by, set_shares_of}
use Rattle.desk.proofs.Accepted.{sector_passes}
use Rattle.desk_laws.specs.Calls.{Lent, its, Call, hand_in, run, fetch, heard, begin, set_shares, Hub, new, lent_words, loads_if, loads, Answer, bare, answer, next}
use Rattle.desk_laws.specs.Views.{WhoMay, role_of, Untouched, OnlyOperatorChanges, Reply, reply_in, reply, if_by, each_by, replies, Viewed, asked, viewed_at, viewed, OnlyHeardBytes, Fitted, fitted_at, fitted, OnlyResults, AllBy, ViewersAlike, unmade, unworked, otherwise, FittersAlike}
use Rattle.desk_laws.proofs.Seats.{heard_answer, heard_desk, fetch_hub, fetch_told, heard_told_lem}
use Rattle.desk_laws.proofs.Unloaded.{none-waits}
use Rattle.desk_laws.proofs.Refusals.{put_back, refusals_change_nothing, fifteen_first}

-- ---- the roles

pub who_may : WhoMay
who_may =
    record {
      by_viewer = (refl, refl, refl);
      by_fitter = (refl, refl, refl);
      by_operator = (refl, refl, refl);
      by_others = λ role above.
          let a = ne_eqb role 0 (λ e. omega (arith, e)) in
          let b = ne_eqb role 1 (λ e. omega (arith, e)) in
          let c = ne_eqb role 2 (λ e. omega (arith, e)) in
          (rw (a, b, c), rw (b, c), c);
    }

-- ---- only the operator changes anything

-- a refused call that loads nothing
refused_untouched : (h : Hub) (c : Call) (n : ℕ) → (answer h c).number ≡ suc n → loads h c ≡ false → Untouched h c
refused_untouched h c n z f =
    let u = refusals_change_nothing h c (λ e. omega (arith, z, e)) in
    record {
      desk = u.desk;
      area = u.area;
      words = ap (λ (a : Answer). a.words) u.answer;
      loads = f;
    }

-- a Fetch that brings nothing in
record Quiet (h : Hub) (i : ℕ) (buffer : List ℕ) (lent : Lent) (n : ℕ) (b : Bool) : Type 0 where
  desk : (fetch_hub h i buffer lent n b).desk ≡ h.desk
  area : (k : ℕ) → (fetch_hub h i buffer lent n b).area k ≡ h.area k
  words : (fetch_told h i buffer lent n b).words ≡ lent_words (h.area i) lent
  loads : loads_if n b ≡ false

fetch_quiet : (h : Hub) (i : ℕ) (buffer : List ℕ) (lent : Lent) (n : ℕ) → Quiet h i buffer lent n false
unfolding desk_fetch_by
fetch_quiet h i buffer lent zero = record { desk = refl; area = put_back h i lent; words = refl; loads = refl }
fetch_quiet h i buffer lent (suc n) = record { desk = refl; area = put_back h i lent; words = refl; loads = refl }

fetch_untouched : (h : Hub) (role i : ℕ) (buffer : List ℕ) (lent : Lent) → may_operate_of role ≡ false → Untouched h (fetch role i buffer lent)
unfolding next answer desk_fetch_of
fetch_untouched h role i buffer lent e =
    let n = desk_fetch_refusal role h.desk i (lent_words (h.area i) lent) buffer in
    let q = subst (Quiet h i buffer lent n) (sym (ap (λ (m : Bool). m && waits_at_of h.desk i) e)) (fetch_quiet h i buffer lent n) in
    record { desk = q.desk; area = q.area; words = q.words; loads = q.loads }

pub only-operator_changes : OnlyOperatorChanges
unfolding next answer hand_in_refusal_of desk_heard_of
only-operator_changes h (hand_in role i rec lent) e =
    let f = ap (λ (m : Bool). loads_if (first (admission_test m i) (load_refusal_of rec (lent_words (h.area i) lent))) (not (must_wait_of h.desk i))) e in
    refused_untouched h (hand_in role i rec lent) 14 ((fifteen_first h role).hand_in e i rec lent) f
only-operator_changes h (run role i request lent) e = refused_untouched h (run role i request lent) 14 ((fifteen_first h role).run e i request lent) refl
only-operator_changes h (fetch role i buffer lent) e = fetch_untouched h role i buffer lent e
only-operator_changes h (heard role i) e = record { desk = heard_desk (admission_test (may_hear_of role) i) h.desk i; area = λ k. refl; words = refl; loads = refl }
only-operator_changes h (begin role) e = refused_untouched h (begin role) 14 ((fifteen_first h role).begin e) refl
only-operator_changes h (set_shares role shares eight) e = refused_untouched h (set_shares role shares eight) 14 ((fifteen_first h role).set_shares_lem e shares eight) refl

-- ---- replies by what stands at a call

module _ {A : Type 0} (role : ℕ) (f : Hub → Call → A) (tell : A → Reply) (law : (h : Hub) (c : Call) → role_of c ≡ role → reply h c ≡ tell (f h c)) where
  one_more : (h : Hub) (c : Call) (b : Bool) (r : List Reply) (v : List A) → (b ≡ true → role_of c ≡ role) → r ≡ map tell v → if_by b (reply h c) r ≡ map tell (if_by b (f h c) v)
  one_more h c true r v e ih = ap₂ (λ (x : Reply) (y : List Reply). x ∷ y) (law h c (e refl)) ih
  one_more h c false r v e ih = ih

  replies_are : (h : Hub) (calls : List Call) → replies role h calls ≡ map tell (each_by role f h calls)
  unfolding each_by
  replies_are h [] = refl
  replies_are h (c ∷ calls) =
      one_more h c (eqb (role_of c) role) (replies role (next h c) calls) (each_by role f (next h c) calls) (eqb-true (role_of c) role) (replies_are (next h c) calls)

  same_replies : (h g : Hub) (calls calls' : List Call) → each_by role f h calls ≡ each_by role f g calls' → replies role h calls ≡ replies role g calls'
  same_replies h g calls calls' e = replies_are h calls ∙ ap (map tell) e ∙ sym (replies_are g calls')

-- a number alone
number_alone : ℕ → List ℕ → Reply
number_alone n buffer = reply_in (bare n buffer [])

heard_reply : ℕ → ℕ → Reply
heard_reply n byte = reply_in (heard_answer n byte)

-- ---- a viewer

tell_viewer : Viewed → Reply
tell_viewer v = tell v.call v.heard
  where
    tell : Call → List ℕ → Reply
    tell (hand_in role i rec lent) bytes = number_alone 15 []
    tell (run role i request lent) bytes = number_alone 15 []
    tell (fetch role i buffer lent) bytes = number_alone 15 buffer
    tell (heard role i) bytes = heard_reply (admission_test true i) (get_or bytes i 0)
    tell (begin role) bytes = number_alone 15 []
    tell (set_shares role shares eight) bytes = number_alone 15 []

viewer-told : (h : Hub) (c : Call) → role_of c ≡ viewer → reply h c ≡ tell_viewer (viewed_at h c)
unfolding tell_viewer number_alone heard_reply answer hand_in_of hand_in_refusal_of hand_in_by desk_run_of desk_run_refusal desk_run_by desk_fetch_of desk_fetch_refusal desk_fetch_by desk_heard_of begin_of begin_by set_shares_of set_shares_refusal_of set_shares_by
viewer-told h (hand_in role i rec lent) e = rw e
viewer-told h (run role i request lent) e = rw e
viewer-told h (fetch role i buffer lent) e = rw e
viewer-told h (heard role i) e = rw e (ap reply_in (heard_told_lem h i (admission_test true i)))
viewer-told h (begin role) e = rw e
viewer-told h (set_shares role shares eight) e = rw e

pub only_heard_bytes : OnlyHeardBytes
only_heard_bytes = same_replies viewer viewed_at tell_viewer viewer-told

-- ---- a fitter

fetched_number : ℕ → ℕ → List ℤ → List ℕ → ℕ
fetched_number i finished words buffer = first (admission_test true i) (first (workspace_test words) (first finished (first (buffer_test 2049 buffer) (result_test (R words)))))

tell_fitter : Fitted → Reply
tell_fitter v = tell v.call
  where
    tell : Call → Reply
    tell (hand_in role i rec lent) = number_alone 15 []
    tell (run role i request lent) = number_alone 15 []
    tell (fetch role i buffer lent) = let n = fetched_number i v.finished v.words buffer in number_alone n (fetch_by n v.words buffer).buffer
    tell (heard role i) = heard_reply (admission_test true i) (get_or v.heard i 0)
    tell (begin role) = number_alone 15 []
    tell (set_shares role shares eight) = number_alone 15 []

fetched-number : (h : Hub) (i : ℕ) (buffer : List ℕ) (lent : Lent)
    → (let job = job_at_of h.desk i in
    let l = lent_words (h.area i) lent in
    desk_fetch_refusal fitter h.desk i l buffer ≡ fetched_number i (first (job_test job) (end_test job)) l buffer)
unfolding desk_fetch_refusal fetch_refusal_of fetched_number
fetched-number h i buffer lent =
    let job = job_at_of h.desk i in
    let l = lent_words (h.area i) lent in
    ap (λ (n : ℕ). first (admission_test true i) (first (workspace_test l) n)) (first_pairs (job_test job) (end_test job) (first (buffer_test 2049 buffer) (result_test (R l))))

fetch_reply : (h : Hub) (i : ℕ) (buffer : List ℕ) (lent : Lent) (n : ℕ) → reply_in (fetch_told h i buffer lent n false) ≡ number_alone n (fetch_by n (lent_words (h.area i) lent) buffer).buffer
unfolding desk_fetch_by fetch_by number_alone
fetch_reply h i buffer lent zero = refl
fetch_reply h i buffer lent (suc n) = refl

fitter-fetched : (h : Hub) (i : ℕ) (buffer : List ℕ) (lent : Lent) → reply h (fetch fitter i buffer lent) ≡ tell_fitter (fitted_at h (fetch fitter i buffer lent))
unfolding tell_fitter answer desk_fetch_of
fitter-fetched h i buffer lent =
    fetch_reply h i buffer lent (desk_fetch_refusal fitter h.desk i (lent_words (h.area i) lent) buffer)
    ∙ ap (λ (n : ℕ). number_alone n (fetch_by n (lent_words (h.area i) lent) buffer).buffer) (fetched-number h i buffer lent)

fitter-told : (h : Hub) (c : Call) → role_of c ≡ fitter → reply h c ≡ tell_fitter (fitted_at h c)
unfolding tell_fitter number_alone heard_reply answer hand_in_of hand_in_refusal_of hand_in_by desk_run_of desk_run_refusal desk_run_by desk_heard_of begin_of begin_by set_shares_of set_shares_refusal_of set_shares_by
fitter-told h (hand_in role i rec lent) e = rw e
fitter-told h (run role i request lent) e = rw e
fitter-told h (fetch role i buffer lent) e = rw e (fitter-fetched h i buffer lent)
fitter-told h (heard role i) e = rw e (ap reply_in (heard_told_lem h i (admission_test true i)))
fitter-told h (begin role) e = rw e
fitter-told h (set_shares role shares eight) e = rw e

pub only_results : OnlyResults
only_results = same_replies fitter fitted_at tell_fitter fitter-told

-- ---- the premises can be met

-- tests 5 and 6
abbrev tests_of : Job → ℕ
tests_of job = first (job_test job) (end_test job)

-- hubs that agree on what a fitter's calls find
record Alike (h g : Hub) : Type 0 where
  heard : h.desk.heard ≡ g.desk.heard
  tests : (i : ℕ) → tests_of (job_at_of h.desk i) ≡ tests_of (job_at_of g.desk i)
  area : (i : ℕ) → h.area i ≡ g.area i

later : (role : ℕ) (c : Call) (calls : List Call) → AllBy role (c ∷ calls) → AllBy role calls
later role c calls f d p = f d (record { before = c ∷ p.before; rest = p.rest; is = ap (λ (t : List Call). c ∷ t) p.is })

now_by : (role : ℕ) (c : Call) (calls : List Call) → AllBy role (c ∷ calls) → role_of c ≡ role
now_by role c calls f = f c (record { before = []; rest = calls; is = refl })

viewed_alike : (h g : Hub) (calls : List Call) → AllBy viewer calls → h.desk.heard ≡ g.desk.heard → viewed h calls ≡ viewed g calls
unfolding each_by
viewed_alike h g [] f e = refl
viewed_alike h g (c ∷ calls) f e =
    let m : may_operate_of (role_of c) ≡ false = ap may_operate_of (now_by viewer c calls f) in
    let u = ap (λ (d : Desk). d.heard) (only-operator_changes h c m).desk in
    let v = ap (λ (d : Desk). d.heard) (only-operator_changes g c m).desk in
    ap₂ (λ (x : List ℕ) (y : List Viewed). if_by (eqb (role_of c) viewer) (record { call = asked c; heard = x }) y) e (viewed_alike (next h c) (next g c) calls (later viewer c calls f) (u ∙ e ∙ sym v))

fitted_same : (h g : Hub) (c : Call) → Alike h g → fitted_at h c ≡ fitted_at g c
fitted_same h g (hand_in role i rec lent) a = rw a.heard
fitted_same h g (run role i request lent) a = rw a.heard
fitted_same h g (fetch role i buffer lent) a = rw (a.heard, a.tests i, a.area i)
fitted_same h g (heard role i) a = rw a.heard
fitted_same h g (begin role) a = rw a.heard
fitted_same h g (set_shares role shares eight) a = rw a.heard

fitted_alike : (h g : Hub) (calls : List Call) → AllBy fitter calls → Alike h g → fitted h calls ≡ fitted g calls
unfolding each_by
fitted_alike h g [] f a = refl
fitted_alike h g (c ∷ calls) f a =
    let m : may_operate_of (role_of c) ≡ false = ap may_operate_of (now_by fitter c calls f) in
    let u = only-operator_changes h c m in
    let v = only-operator_changes g c m in
    let next-alike : Alike (next h c) (next g c) = record {
      heard = ap (λ (d : Desk). d.heard) u.desk ∙ a.heard ∙ sym (ap (λ (d : Desk). d.heard) v.desk);
      tests = λ i. ap (λ (d : Desk). tests_of (job_at_of d i)) u.desk ∙ a.tests i ∙ sym (ap (λ (d : Desk). tests_of (job_at_of d i)) v.desk);
      area = λ i. u.area i ∙ a.area i ∙ sym (v.area i);
    } in
    ap₂ (λ (x : Fitted) (y : List Fitted). if_by (eqb (role_of c) fitter) x y) (fitted_same h g c a) (fitted_alike (next h c) (next g c) calls (later fitter c calls f) next-alike)

-- a job that passes test 5 passes it with none made too
unmade_tests : (job : Job) → job.made ≤ job.turn → tests_of job ≡ tests_of (unmade job)
unfolding job_test
unmade_tests job few =
    let a = le-ltb job.turn job.made few in
    let b = le-ltb job.turn 0 (omega arith) in
    ap (λ (x : Bool). first (fails_if (ltb 120 job.turn || x) 5) (end_test job)) (a ∙ sym b)

unmade_alike : (h : Hub) (i : ℕ) → (job_at_of h.desk i).made ≤ (job_at_of h.desk i).turn → tests_of (job_at_of h.desk i) ≡ tests_of (job_at_of (unworked h.desk) i)
unmade_alike h i few = unmade_tests (job_at_of h.desk i) few ∙ ap tests_of (sym (get_or-map unmade h.desk.jobs i no_job))

pub fitters_alike : FittersAlike
fitters_alike h shares i rec calls few f = fitted_alike h (otherwise h shares i rec) calls f (record { heard = refl; tests = λ j. unmade_alike h j (few j); area = λ j. refl })

-- a Run changes no heard byte
ran_heard : (d : Desk) (i request : ℕ) (l : List ℤ) (n : ℕ) → (desk_run_by n d i request l).reply.desk.heard ≡ d.heard
unfolding desk_run_by desk_run_done
ran_heard d i request l zero = refl
ran_heard d i request l (suc n) = refl

-- and a matrix that is handed in at a new desk is loaded at once
module _ (i : ℕ) (small : i < 8) (areas : ℕ → List ℤ) (l : Load) (same : l.lent ≡ areas i) where
  passes : hand_in_refusal_of operator i l.bytes (areas i) ≡ 0
  unfolding hand_in_refusal_of
  passes = rw (sector_passes i small, ← same) l.accepted

  at_once : must_wait_of new_desk i ≡ false
  unfolding must_wait_of
  at_once = ap₂ (λ (b : Bool) (j : Job). b || ltb j.turn 120) (none-waits i small areas) (get_or-replicate 8 i unloaded_job no_job small)

  loaded_heard : (next (new areas) (hand_in operator i l.bytes its)).desk.heard ≡ set (replicate 8 0) i (heard_byte_of l.bytes)
  unfolding next hand_in_of hand_in_by
  loaded_heard = ap₂ (λ (n : ℕ) (b : Bool). (hand_in_by n b new_desk i l.bytes (areas i)).reply.desk.heard) passes at_once

  worked_heard : (request : ℕ) → (let h = next (new areas) (hand_in operator i l.bytes its) in (next h (run operator i request its)).desk.heard ≡ set (replicate 8 0) i (heard_byte_of l.bytes))
  unfolding next desk_run_of
  worked_heard request =
      let h = next (new areas) (hand_in operator i l.bytes its) in
      ran_heard h.desk i request (h.area i) (desk_run_refusal operator h.desk i request (h.area i)) ∙ loaded_heard

pub viewers_alike : ViewersAlike
unfolding after_all
viewers_alike i request request' areas areas' l l' calls small same same' e f =
    viewed_alike _ _ calls f
    (worked_heard i small areas l same request ∙ ap (set (replicate 8 0) i) e ∙ sym (worked_heard i small areas' l' same' request'))
