-- A sector by itself: what its own calls make of it, a round that begins and a share that it is given; the calls of others leave it as it is. Assumes nothing.
use mathlib.Core.Path.{◌≡◌, refl, sym, ap, ◌∙◌, subst}
use mathlib.Core.Bool.{Bool, true, false, not, ◌&&◌, ◌||◌, cond}
use mathlib.Core.List.{List, [], ◌∷◌}
use Prim.Native.Nat.{ℕ, zero, suc, ◌-◌, ◌*◌, ◌<◌}
use native.Mathlib.Omega.{arith}
use borrow.Author.Tests.{eq-eqb, ne_eqb, eqb-true, eqb-false}
use lib.Dec.{T, ltb, eqb}
use lib.IntN.{ℤ}
use lib.ListN.{length, get_or, length-set, length-replicate}
use lib.Seq.{get_or-set_same, get_or-set_other, length-paste}
use Rattle.lists.specs.Histories.{after_all}
use Rattle.refusals.specs.Refusals.{first}
use Rattle.refusals.proofs.Refusals.{first-none, first_alone, unless_passed}
use Rattle.matrix_record.specs.MatrixRecord.{heard_byte_of}
use Rattle.workspace.specs.Loading.{loaded_words}
use Rattle.engine.specs.declared.job.Job.{Job}
use Rattle.engine.specs.Job.{loaded_job, no_job}
use Rattle.engine.specs.Load.{load_refusal_of}
use Rattle.engine.specs.Run.{run_refusal_of, run_done}
use Rattle.engine.specs.Fetch.{fetch_refusal_of, fetch_by}
use Rattle.engine.proofs.Accepted.{load-accepted}
use Rattle.desk.specs.declared.Desk.{Desk}
use Rattle.desk.specs.Desk.{job_at_of, heard_at_of, share_at, left_at_of, waits_at_of, waiting_at, seated}
use Rattle.desk.specs.Roles.{may_operate_of, may_fetch_of, may_hear_of, role_test, admission_test}
use Rattle.desk.specs.HandIn.{hand_in_refusal_of, must_wait_of, hand_in_by, hand_in_of}
use Rattle.desk.specs.Run.{count_test, desk_run_refusal, grant, desk_run_done, desk_run_by, desk_run_of}
use Rattle.desk.specs.Fetch.{desk_fetch_refusal, brings, desk_fetch_by, desk_fetch_of}
use Rattle.desk.specs.Heard.{desk_heard_by, desk_heard_of}
use Rattle.desk.specs.Rounds.{begin_by, begin_of}
use Rattle.desk.specs.Shares.{set_shares_refusal_of, set_shares_by, set_shares_of}
use Rattle.desk.proofs.Accepted.{admitted, sector_passes}
use Rattle.desk_laws.specs.Calls.{Lent, its, another, Call, hand_in, run, fetch, heard, begin, set_shares, Hub, new, lent_words, left_in, put, loads_if, loads, Answer, bare, answer, next, after, Kind, own, other, round, setting, own_or, round_by, setting_by, kind}
use Rattle.desk_laws.specs.Refusals.{words_lent}
use Rattle.desk_laws.proofs.Records.{record_same, record_other}

pub record Seat : Type 0 where
  pub job : Job
  pub heard : ℕ
  pub share : ℕ
  pub left : ℕ
  pub waits : Bool
  pub waiting : List ℕ
  pub area : List ℤ

abbrev pub seat : ℕ → Hub → Seat
seat i h =
    let d = h.desk in
    record { job = job_at_of d i; heard = heard_at_of d i; share = share_at d i; left = left_at_of d i; waits = waits_at_of d i; waiting = waiting_at d i; area = h.area i }

-- arrays of eight, and the records of eight, as a desk from a new one on has them
pub record Eight (d : Desk) : Type 0 where
  pub jobs : length d.jobs ≡ 8
  pub heard : length d.heard ≡ 8
  pub shares : length d.shares ≡ 8
  pub left : length d.left ≡ 8
  pub waits : length d.waits ≡ 8
  pub records : length d.records ≡ 2056

-- ---- the sector's own calls, by itself

abbrev pub kept_seat : Seat → List ℕ → Seat
kept_seat a rec =
    record { job = a.job; heard = a.heard; share = a.share; left = a.left; waits = true; waiting = rec; area = a.area }

abbrev pub loaded_seat : Seat → List ℕ → List ℤ → Seat
loaded_seat a rec l =
    record { job = loaded_job; heard = heard_byte_of rec; share = a.share; left = a.left; waits = false; waiting = a.waiting; area = loaded_words rec l }

-- by its number, and by whether the matrix must wait
abbrev pub hand_seat : ℕ → Bool → Seat → List ℕ → Lent → Seat
hand_seat zero true a rec lent = kept_seat a rec
hand_seat zero false a rec lent = loaded_seat a rec (lent_words a.area lent)
hand_seat (suc n) must a rec lent = a

abbrev pub run_seat : ℕ → Seat → ℕ → Lent → Seat
run_seat zero a count lent =
    let o = run_done a.job count (lent_words a.area lent) in
    record {
      job = o.reply.job;
      heard = a.heard;
      share = a.share;
      left = a.left - count;
      waits = a.waits;
      waiting = a.waiting;
      area = left_in false a.area lent o.workspace;
    }
run_seat (suc n) a count lent = a

-- by its number, and by whether one is brought in
abbrev pub fetch_seat : ℕ → Bool → Seat → Lent → Seat
fetch_seat zero true a lent = loaded_seat a a.waiting (lent_words a.area lent)
fetch_seat zero false a lent = a
fetch_seat (suc n) brought a lent = a

-- past test 12
abbrev pub hand_number : ℕ → Seat → List ℕ → Lent → ℕ
hand_number role a rec lent = first (role_test (may_operate_of role)) (load_refusal_of rec (lent_words a.area lent))

abbrev pub seat_must_wait : Seat → Bool
seat_must_wait a = a.waits || ltb a.job.turn 120

abbrev pub run_number : ℕ → Seat → ℕ → Lent → ℕ
run_number role a request lent = first (role_test (may_operate_of role)) (first (run_refusal_of a.job (lent_words a.area lent)) (count_test a.job a.left request))

abbrev pub fetch_number : ℕ → Seat → List ℕ → Lent → ℕ
fetch_number role a buffer lent = first (role_test (may_fetch_of role)) (fetch_refusal_of a.job (lent_words a.area lent) buffer)

abbrev pub seat_brings : ℕ → Seat → Bool
seat_brings role a = may_operate_of role && a.waits

abbrev pub seat_grant : Seat → ℕ → ℕ
seat_grant a request = grant a.job a.left request

-- where it is 0 the role may, and the engine's tests are passed
pub hand_passed : (role : ℕ) (a : Seat) (rec : List ℕ) (lent : Lent) → hand_number role a rec lent ≡ 0 → load_refusal_of rec (lent_words a.area lent) ≡ 0
hand_passed role a rec lent z = (first-none (role_test (may_operate_of role)) _ z).1

pub run_passed : (role : ℕ) (a : Seat) (request : ℕ) (lent : Lent) → run_number role a request lent ≡ 0 → run_refusal_of a.job (lent_words a.area lent) ≡ 0
run_passed role a request lent z = (first-none (run_refusal_of a.job (lent_words a.area lent)) _ (first-none (role_test (may_operate_of role)) _ z).1).0

pub fetch_passed : (role : ℕ) (a : Seat) (buffer : List ℕ) (lent : Lent) → fetch_number role a buffer lent ≡ 0 → (may_fetch_of role ≡ true) × (fetch_refusal_of a.job (lent_words a.area lent) buffer ≡ 0)
fetch_passed role a buffer lent z = let p = first-none (role_test (may_fetch_of role)) _ z in (unless_passed (may_fetch_of role) 14 p.0, p.1)

-- one that is brought in waited
pub brought_waits : (role : ℕ) (a : Seat) → seat_brings role a ≡ true → a.waits ≡ true
brought_waits role a = pick (may_operate_of role)
  where
    pick : (b : Bool) → (b && a.waits) ≡ true → a.waits ≡ true
    pick true e = e
    pick false e = absurd (subst T (sym e) tt)

-- a job at its end is granted nothing
pub no_grant : (a : Seat) (request : ℕ) → a.job.turn ≡ 120 → seat_grant a request ≡ 0
no_grant a request e = omega (arith, e)

abbrev pub own_next : Seat → Call → Seat
own_next a (hand_in role j rec lent) = hand_seat (hand_number role a rec lent) (seat_must_wait a) a rec lent
own_next a (run role j request lent) = run_seat (run_number role a request lent) a (seat_grant a request) lent
own_next a (fetch role j buffer lent) = fetch_seat (fetch_number role a buffer lent) (seat_brings role a) a lent
own_next a (heard role j) = a
own_next a (begin role) = a
own_next a (set_shares role shares eight) = a

-- the words that it is lent
abbrev pub seat_lent : Seat → Call → List ℤ
seat_lent a (hand_in role j rec lent) = lent_words a.area lent
seat_lent a (run role j request lent) = lent_words a.area lent
seat_lent a (fetch role j buffer lent) = lent_words a.area lent
seat_lent a (heard role j) = []
seat_lent a (begin role) = []
seat_lent a (set_shares role shares eight) = []

-- whether it loads the sector
abbrev pub own_loads : Seat → Call → Bool
own_loads a (hand_in role j rec lent) = loads_if (hand_number role a rec lent) (not (seat_must_wait a))
own_loads a (run role j request lent) = false
own_loads a (fetch role j buffer lent) = loads_if (fetch_number role a buffer lent) (seat_brings role a)
own_loads a (heard role j) = false
own_loads a (begin role) = false
own_loads a (set_shares role shares eight) = false

abbrev pub hand_answer : ℕ → Bool → Seat → List ℕ → List ℤ → Answer
hand_answer zero true a rec l =
    record { number = 0; heard = a.heard; job = a.job; count = 0; clamps-r = 0; clamps-q = 0; buffer = []; words = l }
hand_answer zero false a rec l =
    record { number = 0; heard = heard_byte_of rec; job = loaded_job; count = 0; clamps-r = 0; clamps-q = 0; buffer = []; words = loaded_words rec l }
hand_answer (suc n) must a rec l = bare (suc n) [] l

abbrev pub run_answer : ℕ → Job → ℕ → List ℤ → Answer
run_answer zero job count l =
    let o = run_done job count l in
    let r = o.reply in
    record { number = 0; heard = 0; job = r.job; count = r.count; clamps-r = r.clamps_r; clamps-q = r.clamps_q; buffer = []; words = o.workspace }
run_answer (suc n) job count l = bare (suc n) [] l

abbrev pub brought_words : Bool → List ℕ → List ℤ → List ℤ
brought_words true rec l = loaded_words rec l
brought_words false rec l = l

abbrev pub fetch_answer : ℕ → Bool → List ℕ → List ℤ → List ℕ → Answer
fetch_answer zero brought rec l buffer = bare 0 (fetch_by 0 l buffer).buffer (brought_words brought rec l)
fetch_answer (suc n) brought rec l buffer = bare (suc n) buffer l

abbrev pub heard_answer : ℕ → ℕ → Answer
heard_answer zero byte = record { number = 0; heard = byte; job = no_job; count = 0; clamps-r = 0; clamps-q = 0; buffer = []; words = [] }
heard_answer (suc n) byte = bare (suc n) [] []

abbrev pub own_answer : Seat → Call → Answer
own_answer a (hand_in role j rec lent) = hand_answer (hand_number role a rec lent) (seat_must_wait a) a rec (lent_words a.area lent)
own_answer a (run role j request lent) = run_answer (run_number role a request lent) a.job (seat_grant a request) (lent_words a.area lent)
own_answer a (fetch role j buffer lent) = fetch_answer (fetch_number role a buffer lent) (seat_brings role a) a.waiting (lent_words a.area lent) buffer
own_answer a (heard role j) = heard_answer (role_test (may_hear_of role)) a.heard
own_answer a (begin role) = bare 0 [] []
own_answer a (set_shares role shares eight) = bare 0 [] []

-- each of them answers its number
pub hand_number_is : (n : ℕ) (must : Bool) (a : Seat) (rec : List ℕ) (l : List ℤ) → (hand_answer n must a rec l).number ≡ n
hand_number_is zero true a rec l = refl
hand_number_is zero false a rec l = refl
hand_number_is (suc n) must a rec l = refl

pub fetch_number_is : (n : ℕ) (brought : Bool) (rec : List ℕ) (l : List ℤ) (buffer : List ℕ) → (fetch_answer n brought rec l buffer).number ≡ n
fetch_number_is zero brought rec l buffer = refl
fetch_number_is (suc n) brought rec l buffer = refl

pub run_number_is : (n : ℕ) (job : Job) (count : ℕ) (l : List ℤ) → (run_answer n job count l).number ≡ n
run_number_is zero job count l = refl
run_number_is (suc n) job count l = refl

-- ---- the areas

pub put_same : (areas : ℕ → List ℤ) (i : ℕ) (l : List ℤ) → put areas i l i ≡ l
unfolding put
put_same areas i l = rw (eq-eqb i i refl)

pub put_other : (areas : ℕ → List ℤ) (i j : ℕ) (l : List ℤ) → (i ≡ j → ⊥) → put areas j l i ≡ areas i
unfolding put
put_other areas i j l d = rw (ne_eqb i j d)

-- what is lent to a call that leaves it as it was
pub left_same : (area : List ℤ) (lent : Lent) → left_in false area lent (lent_words area lent) ≡ area
left_same area its = refl
left_same area (another m) = refl

-- ---- which calls are the sector's

own_is : (i j : ℕ) → own_or i j ≡ own → j ≡ i
own_is i j = pick (eqb j i) (eqb-true j i)
  where
    pick : (b : Bool) → (b ≡ true → j ≡ i) → cond b own other ≡ own → j ≡ i
    pick true f e = f refl
    pick false f e = absurd (let z : ◌≡◌ {A = ℕ} 0 1 = cc in omega arith)

own_if : (i j : ℕ) → j ≡ i → own_or i j ≡ own
own_if i j e = rw (eq-eqb j i e)

pub own_kind : (i : ℕ) → own_or i i ≡ own
own_kind i = own_if i i refl

pub lent_own : (h : Hub) (i : ℕ) (c : Call) → kind i c ≡ own → words_lent h c ≡ seat_lent (seat i h) c
lent_own h i (hand_in role j rec lent) e = rw (own_is i j e)
lent_own h i (run role j request lent) e = rw (own_is i j e)
lent_own h i (fetch role j buffer lent) e = rw (own_is i j e)
lent_own h i (heard role j) e = refl
lent_own h i (begin role) e = refl
lent_own h i (set_shares role shares eight) e = refl

-- a round and a setting are nobody's own
never_own : (n : ℕ) → round_by n ≡ own → ⊥
never_own zero e = let z : ◌≡◌ {A = ℕ} 0 1 = cc in omega arith
never_own (suc n) e = let z : ◌≡◌ {A = ℕ} 0 1 = cc in omega arith

not_own : (n s : ℕ) → setting_by n s ≡ own → ⊥
not_own zero s e = let z : ◌≡◌ {A = ℕ} 0 1 = cc in omega arith
not_own (suc n) s e = let z : ◌≡◌ {A = ℕ} 0 1 = cc in omega arith

-- ---- a call by the number that decides, at the hub

abbrev pub hand_hub : Hub → ℕ → List ℕ → Lent → ℕ → Bool → Hub
hand_hub h i rec lent n must =
    let o = hand_in_by n must h.desk i rec (lent_words (h.area i) lent) in
    record { desk = o.reply.desk; area = put h.area i (left_in (loads_if n (not must)) (h.area i) lent o.area) }

abbrev pub run_hub : Hub → ℕ → ℕ → Lent → ℕ → Hub
run_hub h i request lent n =
    let o = desk_run_by n h.desk i request (lent_words (h.area i) lent) in
    record { desk = o.reply.desk; area = put h.area i (left_in false (h.area i) lent o.area) }

abbrev pub fetch_hub : Hub → ℕ → List ℕ → Lent → ℕ → Bool → Hub
fetch_hub h i buffer lent n brought =
    let o = desk_fetch_by n brought h.desk i (lent_words (h.area i) lent) buffer in
    record { desk = o.reply.desk; area = put h.area i (left_in (loads_if n brought) (h.area i) lent o.area) }

abbrev pub hand_told : Hub → ℕ → List ℕ → Lent → ℕ → Bool → Answer
hand_told h i rec lent n must =
    let o = hand_in_by n must h.desk i rec (lent_words (h.area i) lent) in
    let r = o.reply in
    record { number = r.number; heard = r.heard; job = r.job; count = 0; clamps-r = 0; clamps-q = 0; buffer = []; words = o.area }

abbrev pub run_told : Hub → ℕ → ℕ → Lent → ℕ → Answer
run_told h i request lent n =
    let o = desk_run_by n h.desk i request (lent_words (h.area i) lent) in
    let r = o.reply in
    record { number = r.number; heard = 0; job = r.job; count = r.count; clamps-r = r.clamps_r; clamps-q = r.clamps_q; buffer = []; words = o.area }

abbrev pub fetch_told : Hub → ℕ → List ℕ → Lent → ℕ → Bool → Answer
fetch_told h i buffer lent n brought =
    let o = desk_fetch_by n brought h.desk i (lent_words (h.area i) lent) buffer in
    bare o.reply.number o.buffer o.area

abbrev pub heard_told : Hub → ℕ → ℕ → Answer
heard_told h i n =
    let r = desk_heard_by n h.desk i in
    record { number = r.number; heard = r.heard; job = no_job; count = 0; clamps-r = 0; clamps-q = 0; buffer = []; words = [] }

-- ---- the sector's own calls

pub heard_desk : (n : ℕ) (d : Desk) (j : ℕ) → (desk_heard_by n d j).desk ≡ d
unfolding desk_heard_by
heard_desk zero d j = refl
heard_desk (suc n) d j = refl

-- for one of eight sectors test 12 adds nothing
admission_is : (may : Bool) (i : ℕ) → i < 8 → admission_test may i ≡ role_test may
admission_is may i small = ap (first (role_test may)) (sector_passes i small) ∙ first_alone (role_test may)

pub role_first : (may : Bool) (i n : ℕ) → i < 8 → first (admission_test may i) n ≡ first (role_test may) n
role_first may i n small = ap (λ (k : ℕ). first k n) (admission_is may i small)

-- a record that passes the tests has 257 bytes, and is for one of eight sectors
sized : (role j : ℕ) (rec : List ℕ) (l : List ℤ) → hand_in_refusal_of role j rec l ≡ 0 → length rec ≡ 257
unfolding hand_in_refusal_of
sized role j rec l z = (load-accepted rec l (first-none (admission_test (may_operate_of role) j) _ z).1).header.sized

known : (role j : ℕ) (rec : List ℕ) (l : List ℤ) → hand_in_refusal_of role j rec l ≡ 0 → j < 8
unfolding hand_in_refusal_of
known role j rec l z = admitted (may_operate_of role) j (first-none (admission_test (may_operate_of role) j) _ z).0

-- ---- what a call answers, by the number that decides, as the seat has it

module _ (h : Hub) (i : ℕ) where
  hand_told_lem : (rec : List ℕ) (lent : Lent) (n : ℕ) (must : Bool) → hand_told h i rec lent n must ≡ hand_answer n must (seat i h) rec (lent_words (h.area i) lent)
  unfolding hand_in_by
  hand_told_lem rec lent zero true = refl
  hand_told_lem rec lent zero false = refl
  hand_told_lem rec lent (suc n) must = refl

  run_told_lem : (request : ℕ) (lent : Lent) (n : ℕ) → run_told h i request lent n ≡ run_answer n (job_at_of h.desk i) (seat_grant (seat i h) request) (lent_words (h.area i) lent)
  unfolding desk_run_by desk_run_done
  run_told_lem request lent zero = refl
  run_told_lem request lent (suc n) = refl

  pub fetch_told_lem : (buffer : List ℕ) (lent : Lent) (n : ℕ) (brought : Bool) → fetch_told h i buffer lent n brought ≡ fetch_answer n brought (waiting_at h.desk i) (lent_words (h.area i) lent) buffer
  unfolding desk_fetch_by
  fetch_told_lem buffer lent zero true = refl
  fetch_told_lem buffer lent zero false = refl
  fetch_told_lem buffer lent (suc n) brought = refl

  pub heard_told_lem : (n : ℕ) → heard_told h i n ≡ heard_answer n (heard_at_of h.desk i)
  unfolding desk_heard_by
  heard_told_lem zero = refl
  heard_told_lem (suc n) = refl

module _ (h : Hub) (i : ℕ) (small : i < 8) (w : Eight h.desk) where
  in_jobs : i < length h.desk.jobs
  in_jobs = omega (arith, w.jobs)

  in_heard : i < length h.desk.heard
  in_heard = omega (arith, w.heard)

  in_left : i < length h.desk.left
  in_left = omega (arith, w.left)

  in_waits : i < length h.desk.waits
  in_waits = omega (arith, w.waits)

  hand_seat_lem : (rec : List ℕ) (lent : Lent) (n : ℕ) (must : Bool) → (n ≡ 0 → length rec ≡ 257) → seat i (hand_hub h i rec lent n must) ≡ hand_seat n must (seat i h) rec lent
  unfolding hand_in_by
  hand_seat_lem rec lent zero true z =
      rw (get_or-set_same h.desk.waits i 1 0 in_waits, record_same h.desk.records rec i w.records (z refl) small, put_same, left_same)
  hand_seat_lem rec lent zero false z =
      rw (get_or-set_same h.desk.jobs i _ no_job in_jobs, get_or-set_same h.desk.heard i _ 0 in_heard, get_or-set_same h.desk.waits i 0 0 in_waits, put_same)
  hand_seat_lem rec lent (suc n) must z = rw (put_same, left_same)

  run_seat_lem : (request : ℕ) (lent : Lent) (n : ℕ) → seat i (run_hub h i request lent n) ≡ run_seat n (seat i h) (seat_grant (seat i h) request) lent
  unfolding desk_run_by desk_run_done
  run_seat_lem request lent zero = rw (get_or-set_same h.desk.jobs i _ no_job in_jobs, get_or-set_same h.desk.left i _ 0 in_left, put_same)
  run_seat_lem request lent (suc n) = rw (put_same, left_same)

  fetch_seat_lem : (buffer : List ℕ) (lent : Lent) (n : ℕ) (brought : Bool) → seat i (fetch_hub h i buffer lent n brought) ≡ fetch_seat n brought (seat i h) lent
  unfolding desk_fetch_by
  fetch_seat_lem buffer lent zero true =
      rw (get_or-set_same h.desk.jobs i _ no_job in_jobs, get_or-set_same h.desk.heard i _ 0 in_heard, get_or-set_same h.desk.waits i 0 0 in_waits, put_same)
  fetch_seat_lem buffer lent zero false = rw (put_same, left_same)
  fetch_seat_lem buffer lent (suc n) brought = rw (put_same, left_same)

  pub own_next_lem : (c : Call) → kind i c ≡ own → seat i (next h c) ≡ own_next (seat i h) c
  unfolding next hand_in_of hand_in_refusal_of must_wait_of desk_run_of desk_run_refusal desk_fetch_of desk_fetch_refusal desk_heard_of
  own_next_lem (hand_in role j rec lent) e =
      let n = hand_number role (seat i h) rec lent in
      let q = role_first (may_operate_of role) i (load_refusal_of rec (lent_words (h.area i) lent)) small in
      let f : n ≡ 0 → length rec ≡ 257 = λ z. sized role i rec (lent_words (h.area i) lent) (q ∙ z) in
      rw (own_is i j e) (ap (λ (k : ℕ). seat i (hand_hub h i rec lent k (seat_must_wait (seat i h)))) q ∙ hand_seat_lem rec lent n (seat_must_wait (seat i h)) f)
  own_next_lem (run role j request lent) e =
      let q = role_first (may_operate_of role) i (first (run_refusal_of (job_at_of h.desk i) (lent_words (h.area i) lent)) (count_test (job_at_of h.desk i) (left_at_of h.desk i) request)) small in
      rw (own_is i j e) (ap (λ (k : ℕ). seat i (run_hub h i request lent k)) q ∙ run_seat_lem request lent (run_number role (seat i h) request lent))
  own_next_lem (fetch role j buffer lent) e =
      let b = brings role h.desk i in
      let q = role_first (may_fetch_of role) i (fetch_refusal_of (job_at_of h.desk i) (lent_words (h.area i) lent) buffer) small in
      rw (own_is i j e) (ap (λ (k : ℕ). seat i (fetch_hub h i buffer lent k b)) q ∙ fetch_seat_lem buffer lent (fetch_number role (seat i h) buffer lent) b)
  own_next_lem (heard role j) e = ap (λ (d : Desk). seat i (record { desk = d; area = h.area })) (heard_desk (admission_test (may_hear_of role) j) h.desk j)
  own_next_lem (begin role) e = absurd (never_own (role_test (may_operate_of role)) e)
  own_next_lem (set_shares role shares eight) e = absurd (not_own (set_shares_refusal_of role shares) (get_or shares i 0) e)

  pub own_loads_lem : (c : Call) → kind i c ≡ own → loads h c ≡ own_loads (seat i h) c
  unfolding hand_in_refusal_of must_wait_of desk_fetch_refusal
  own_loads_lem (hand_in role j rec lent) e =
      rw (own_is i j e) (ap (λ (k : ℕ). loads_if k (not (seat_must_wait (seat i h)))) (role_first (may_operate_of role) i (load_refusal_of rec (lent_words (h.area i) lent)) small))
  own_loads_lem (run role j request lent) e = refl
  own_loads_lem (fetch role j buffer lent) e =
      rw (own_is i j e) (ap (λ (k : ℕ). loads_if k (brings role h.desk i)) (role_first (may_fetch_of role) i (fetch_refusal_of (job_at_of h.desk i) (lent_words (h.area i) lent) buffer) small))
  own_loads_lem (heard role j) e = refl
  own_loads_lem (begin role) e = refl
  own_loads_lem (set_shares role shares eight) e = refl

  pub own_answer_lem : (c : Call) → kind i c ≡ own → answer h c ≡ own_answer (seat i h) c
  unfolding answer hand_in_of hand_in_refusal_of must_wait_of desk_run_of desk_run_refusal desk_fetch_of desk_fetch_refusal desk_heard_of desk_heard_by
  own_answer_lem (hand_in role j rec lent) e =
      let q = role_first (may_operate_of role) i (load_refusal_of rec (lent_words (h.area i) lent)) small in
      rw (own_is i j e) (ap (λ (k : ℕ). hand_told h i rec lent k (seat_must_wait (seat i h))) q ∙ hand_told_lem h i rec lent (hand_number role (seat i h) rec lent) (seat_must_wait (seat i h)))
  own_answer_lem (run role j request lent) e =
      let q = role_first (may_operate_of role) i (first (run_refusal_of (job_at_of h.desk i) (lent_words (h.area i) lent)) (count_test (job_at_of h.desk i) (left_at_of h.desk i) request)) small in
      rw (own_is i j e) (ap (run_told h i request lent) q ∙ run_told_lem h i request lent (run_number role (seat i h) request lent))
  own_answer_lem (fetch role j buffer lent) e =
      let b = brings role h.desk i in
      let q = role_first (may_fetch_of role) i (fetch_refusal_of (job_at_of h.desk i) (lent_words (h.area i) lent) buffer) small in
      rw (own_is i j e) (ap (λ (k : ℕ). fetch_told h i buffer lent k b) q ∙ fetch_told_lem h i buffer lent (fetch_number role (seat i h) buffer lent) b)
  own_answer_lem (heard role j) e = rw (own_is i j e) (ap (heard_told h i) (admission_is (may_hear_of role) i small) ∙ heard_told_lem h i (role_test (may_hear_of role)))
  own_answer_lem (begin role) e = absurd (never_own (role_test (may_operate_of role)) e)
  own_answer_lem (set_shares role shares eight) e = absurd (not_own (set_shares_refusal_of role shares) (get_or shares i 0) e)

-- ---- the calls of others leave the sector as it is

module _ (h : Hub) (i j : ℕ) (d : i ≡ j → ⊥) (w : Eight h.desk) where
  hand_by_other : (rec : List ℕ) (lent : Lent) (n : ℕ) (must : Bool) → (n ≡ 0 → (length rec ≡ 257) × (j < 8)) → seat i (hand_hub h j rec lent n must) ≡ seat i h
  unfolding hand_in_by
  hand_by_other rec lent zero true z =
      rw (get_or-set_other h.desk.waits j i 1 0 d, record_other h.desk.records rec j w.records (z refl).0 (z refl).1 i d, put_other h.area i j _ d)
  hand_by_other rec lent zero false z =
      rw (get_or-set_other h.desk.jobs j i _ no_job d, get_or-set_other h.desk.heard j i _ 0 d, get_or-set_other h.desk.waits j i 0 0 d, put_other h.area i j _ d)
  hand_by_other rec lent (suc n) must z = rw (put_other h.area i j _ d)

  run_by_other : (request : ℕ) (lent : Lent) (n : ℕ) → seat i (run_hub h j request lent n) ≡ seat i h
  unfolding desk_run_by desk_run_done
  run_by_other request lent zero = rw (get_or-set_other h.desk.jobs j i _ no_job d, get_or-set_other h.desk.left j i _ 0 d, put_other h.area i j _ d)
  run_by_other request lent (suc n) = rw (put_other h.area i j _ d)

  fetch_by_other : (buffer : List ℕ) (lent : Lent) (n : ℕ) (brought : Bool) → seat i (fetch_hub h j buffer lent n brought) ≡ seat i h
  unfolding desk_fetch_by
  fetch_by_other buffer lent zero true =
      rw (get_or-set_other h.desk.jobs j i _ no_job d, get_or-set_other h.desk.heard j i _ 0 d, get_or-set_other h.desk.waits j i 0 0 d, put_other h.area i j _ d)
  fetch_by_other buffer lent zero false = rw (put_other h.area i j _ d)
  fetch_by_other buffer lent (suc n) brought = rw (put_other h.area i j _ d)

-- ---- a round begins, or the sector is given a share

abbrev pub refilled : Seat → Seat
refilled a =
    record { job = a.job; heard = a.heard; share = a.share; left = a.share; waits = a.waits; waiting = a.waiting; area = a.area }

abbrev pub sharing : Seat → ℕ → Seat
sharing a s =
    record { job = a.job; heard = a.heard; share = s; left = a.left; waits = a.waits; waiting = a.waiting; area = a.area }

abbrev set_hub : Hub → List ℕ → ℕ → Hub
set_hub h shares n = record { desk = (set_shares_by n h.desk shares).desk; area = h.area }

-- ---- what any call makes of a sector, by its kind

abbrev pub step : Kind → Call → Seat → Seat
step own c a = own_next a c
step other c a = a
step round c a = refilled a
step (setting s) c a = sharing a s

set_seat : (h : Hub) (i : ℕ) (shares : List ℕ) (c : Call) (n : ℕ) → seat i (set_hub h shares n) ≡ step (setting_by n (get_or shares i 0)) c (seat i h)
unfolding set_shares_by
set_seat h i shares c zero = refl
set_seat h i shares c (suc n) = refl

abbrev begin_hub : Hub → ℕ → Hub
begin_hub h n = record { desk = (begin_by n h.desk).desk; area = h.area }

begin_seat : (h : Hub) (i : ℕ) (c : Call) (n : ℕ) → seat i (begin_hub h n) ≡ step (round_by n) c (seat i h)
unfolding begin_by
begin_seat h i c zero = refl
begin_seat h i c (suc n) = refl

module _ (h : Hub) (i : ℕ) (small : i < 8) (w : Eight h.desk) where
  -- a call for the sector j
  own_or_lem : (c : Call) (j : ℕ) → (j ≡ i → seat i (next h c) ≡ own_next (seat i h) c) → ((i ≡ j → ⊥) → seat i (next h c) ≡ seat i h) → seat i (next h c) ≡ step (own_or i j) c (seat i h)
  own_or_lem c j f g = pick (eqb j i) (eqb-true j i) (eqb-false j i)
    where
      pick : (b : Bool) → (b ≡ true → j ≡ i) → (b ≡ false → j ≡ i → ⊥) → seat i (next h c) ≡ step (cond b own other) c (seat i h)
      pick true e d = f (e refl)
      pick false e d = g (λ q. d refl (sym q))

  pub seat_next : (c : Call) → seat i (next h c) ≡ step (kind i c) c (seat i h)
  unfolding next hand_in_of desk_run_of desk_fetch_of desk_heard_of begin_of set_shares_of
  seat_next (hand_in role j rec lent) =
      let l = lent_words (h.area j) lent in
      own_or_lem (hand_in role j rec lent) j (λ e. own_next_lem h i small w (hand_in role j rec lent) (own_if i j e))
      (λ d. hand_by_other h i j d w rec lent (hand_in_refusal_of role j rec l) (must_wait_of h.desk j) (λ z. (sized role j rec l z, known role j rec l z)))
  seat_next (run role j request lent) =
      own_or_lem (run role j request lent) j (λ e. own_next_lem h i small w (run role j request lent) (own_if i j e))
      (λ d. run_by_other h i j d w request lent (desk_run_refusal role h.desk j request (lent_words (h.area j) lent)))
  seat_next (fetch role j buffer lent) =
      own_or_lem (fetch role j buffer lent) j (λ e. own_next_lem h i small w (fetch role j buffer lent) (own_if i j e))
      (λ d. fetch_by_other h i j d w buffer lent (desk_fetch_refusal role h.desk j (lent_words (h.area j) lent) buffer) (brings role h.desk j))
  seat_next (heard role j) =
      let z = ap (λ (d : Desk). seat i (record { desk = d; area = h.area })) (heard_desk (admission_test (may_hear_of role) j) h.desk j) in
      own_or_lem (heard role j) j (λ e. z) (λ d. z)
  seat_next (begin role) = begin_seat h i (begin role) (role_test (may_operate_of role))
  seat_next (set_shares role shares eight) = set_seat h i shares (set_shares role shares eight) (set_shares_refusal_of role shares)

-- ---- arrays stay arrays of eight

eight_seated : (d : Desk) (i byte : ℕ) → Eight d → Eight (seated d i byte)
eight_seated d i byte w =
    record {
      jobs = length-set d.jobs i _ ∙ w.jobs;
      heard = length-set d.heard i _ ∙ w.heard;
      shares = w.shares;
      left = w.left;
      waits = length-set d.waits i _ ∙ w.waits;
      records = w.records;
    }

eight_hand : (d : Desk) (i : ℕ) (rec : List ℕ) (l : List ℤ) (n : ℕ) (must : Bool) → (n ≡ 0 → (length rec ≡ 257) × (i < 8)) → Eight d → Eight (hand_in_by n must d i rec l).reply.desk
unfolding hand_in_by
eight_hand d i rec l zero true z w =
    record {
      jobs = w.jobs;
      heard = w.heard;
      shares = w.shares;
      left = w.left;
      waits = length-set d.waits i _ ∙ w.waits;
      records = length-paste d.records (i * 257) rec 257 (omega (arith, w.records, (z refl).1)) (omega (arith, (z refl).0)) ∙ w.records;
    }
eight_hand d i rec l zero false z w = eight_seated d i (heard_byte_of rec) w
eight_hand d i rec l (suc n) must z w = w

eight_run : (d : Desk) (i request : ℕ) (l : List ℤ) (n : ℕ) → Eight d → Eight (desk_run_by n d i request l).reply.desk
unfolding desk_run_by desk_run_done
eight_run d i request l zero w =
    record { jobs = length-set d.jobs i _ ∙ w.jobs; heard = w.heard; shares = w.shares; left = length-set d.left i _ ∙ w.left; waits = w.waits; records = w.records }
eight_run d i request l (suc n) w = w

eight_fetch : (d : Desk) (i : ℕ) (l : List ℤ) (buffer : List ℕ) (n : ℕ) (brought : Bool) → Eight d → Eight (desk_fetch_by n brought d i l buffer).reply.desk
unfolding desk_fetch_by
eight_fetch d i l buffer zero true w = eight_seated d i (heard_byte_of (waiting_at d i)) w
eight_fetch d i l buffer zero false w = w
eight_fetch d i l buffer (suc n) brought w = w

eight_set : (d : Desk) (shares : List ℕ) (n : ℕ) → length shares ≡ 8 → Eight d → Eight (set_shares_by n d shares).desk
unfolding set_shares_by
eight_set d shares zero e w = record { jobs = w.jobs; heard = w.heard; shares = e; left = w.left; waits = w.waits; records = w.records }
eight_set d shares (suc n) e w = w

eight_begin : (d : Desk) (n : ℕ) → Eight d → Eight (begin_by n d).desk
unfolding begin_by
eight_begin d zero w = record { jobs = w.jobs; heard = w.heard; shares = w.shares; left = w.shares; waits = w.waits; records = w.records }
eight_begin d (suc n) w = w

pub eight_next : (h : Hub) (c : Call) → Eight h.desk → Eight (next h c).desk
unfolding next hand_in_of desk_run_of desk_fetch_of desk_heard_of begin_of set_shares_of
eight_next h (hand_in role j rec lent) w =
    let l = lent_words (h.area j) lent in
    eight_hand h.desk j rec l (hand_in_refusal_of role j rec l) (must_wait_of h.desk j) (λ z. (sized role j rec l z, known role j rec l z)) w
eight_next h (run role j request lent) w = eight_run h.desk j request (lent_words (h.area j) lent) (desk_run_refusal role h.desk j request (lent_words (h.area j) lent)) w
eight_next h (fetch role j buffer lent) w =
    let l = lent_words (h.area j) lent in
    eight_fetch h.desk j l buffer (desk_fetch_refusal role h.desk j l buffer) (brings role h.desk j) w
eight_next h (heard role j) w = subst Eight (sym (heard_desk (admission_test (may_hear_of role) j) h.desk j)) w
eight_next h (begin role) w = eight_begin h.desk (role_test (may_operate_of role)) w
eight_next h (set_shares role shares eight) w = eight_set h.desk shares (set_shares_refusal_of role shares) eight w

pub eight_after : (h : Hub) (calls : List Call) → Eight h.desk → Eight (after h calls).desk
unfolding after_all
eight_after h [] w = w
eight_after h (c ∷ calls) w = eight_after (next h c) calls (eight_next h c w)

pub eight_new : (areas : ℕ → List ℤ) → Eight (new areas).desk
eight_new areas = record { jobs = refl; heard = refl; shares = refl; left = refl; waits = refl; records = length-replicate {A = ℕ} 2056 0 }
