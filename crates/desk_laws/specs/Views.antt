-- Document 02, U12: who may see what, on every desk and for all lists of calls, in which everybody else does what they like. The calls of all viewers are taken
-- together, and so are those of all fitters. Assumes nothing.
use Rattle.std.specs.Prelude.{◌≡◌, Bool, true, false, List, [], ◌∷◌, map, ℕ, ◌≤◌, ◌<◌, eqb, ℤ}
use Rattle.lists.specs.Histories.{Place}
use Rattle.refusals.specs.Refusals.{first}
use Rattle.matrix_record.specs.MatrixRecord.{heard_byte_of}
use Rattle.engine.specs.declared.job.Job.{Job}
use Rattle.engine.specs.Job.{job_test, end_test}
use Rattle.accuracy.specs.Demand3.{Load}
use Rattle.desk.specs.declared.Desk.{Desk}
use Rattle.desk.specs.Desk.{sector_count, job_at_of, begun, shared, kept}
use Rattle.desk.specs.Roles.{viewer, fitter, operator, may_operate_of, may_fetch_of, may_hear_of}
use Rattle.desk_laws.specs.Calls.{its, Call, hand_in, run, fetch, heard, begin, set_shares, Hub, new, lent_words, loads, Answer, answer, next, after}
use Rattle.desk_laws.specs.Refusals.{words_lent}

-- ---- each of the three roles, and every other number
pub record WhoMay : Type 0 where
  pub by_viewer : (may_hear_of viewer ≡ true) × (may_fetch_of viewer ≡ false) × (may_operate_of viewer ≡ false)
  pub by_fitter : (may_hear_of fitter ≡ true) × (may_fetch_of fitter ≡ true) × (may_operate_of fitter ≡ false)
  pub by_operator : (may_hear_of operator ≡ true) × (may_fetch_of operator ≡ true) × (may_operate_of operator ≡ true)
  pub by_others : (role : ℕ) → operator < role → (may_hear_of role ≡ false) × (may_fetch_of role ≡ false) × (may_operate_of role ≡ false)

-- ---- who makes a call
abbrev pub role_of : Call → ℕ
role_of (hand_in role i rec lent) = role
role_of (run role i request lent) = role
role_of (fetch role i buffer lent) = role
role_of (heard role i) = role
role_of (begin role) = role
role_of (set_shares role shares eight) = role

-- ---- only the operator's calls change anything: any other leaves the desk, every area and the words that it was lent as they were, and loads nothing, so that a
-- fitter's Fetch never brings in a waiting matrix
pub record Untouched (h : Hub) (c : Call) : Type 0 where
  pub desk : (next h c).desk ≡ h.desk
  pub area : (i : ℕ) → (next h c).area i ≡ h.area i
  pub words : (answer h c).words ≡ words_lent h c
  pub loads : loads h c ≡ false

abbrev pub OnlyOperatorChanges : Type 0
OnlyOperatorChanges = (h : Hub) (c : Call) → may_operate_of (role_of c) ≡ false → Untouched h c

-- ---- what a call answers, without the desk, which goes back to the host alone, and without the words of the area, which are the host's as well
pub record Reply : Type 0 where
  pub number : ℕ
  pub heard : ℕ
  pub job : Job
  pub count : ℕ
  pub clamps-r : ℕ
  pub clamps-q : ℕ
  pub buffer : List ℕ

abbrev pub reply_in : Answer → Reply
reply_in a =
    record { number = a.number; heard = a.heard; job = a.job; count = a.count; clamps-r = a.clamps-r; clamps-q = a.clamps-q; buffer = a.buffer }

abbrev pub reply : Hub → Call → Reply
reply h c = reply_in (answer h c)

-- f at each of the calls that a role makes
abbrev pub if_by : {A : Type 0} → Bool → A → List A → List A
if_by true a rest = a ∷ rest
if_by false a rest = rest

unfoldable pub each_by : {A : Type 0} → ℕ → (Hub → Call → A) → Hub → List Call → List A
each_by role f h [] = []
each_by role f h (c ∷ calls) = if_by (eqb (role_of c) role) (f h c) (each_by role f (next h c) calls)

abbrev pub replies : ℕ → Hub → List Call → List Reply
replies role h calls = each_by role reply h calls

-- a call without the area that it is lent
abbrev pub asked : Call → Call
asked (hand_in role i rec lent) = hand_in role i rec its
asked (run role i request lent) = run role i request its
asked (fetch role i buffer lent) = fetch role i buffer its
asked (heard role i) = heard role i
asked (begin role) = begin role
asked (set_shares role shares eight) = set_shares role shares eight

-- ---- a viewer

-- one of its calls, whatever area it is lent, and all heard bytes as the call finds them
pub record Viewed : Type 0 where
  pub call : Call
  pub heard : List ℕ

abbrev pub viewed_at : Hub → Call → Viewed
viewed_at h c = record { call = asked c; heard = h.desk.heard }

abbrev pub viewed : Hub → List Call → List Viewed
viewed h calls = each_by viewer viewed_at h calls

-- "Let two desks agree on all heard bytes at each of the viewer's calls, and on those calls; the viewer's replies, without the desk, .. are then the same, whatever
-- the results are", and whatever the areas, jobs, shares, counts and waiting matrices
abbrev pub OnlyHeardBytes : Type 0
OnlyHeardBytes = (h g : Hub) (calls calls' : List Call) → viewed h calls ≡ viewed g calls' → replies viewer h calls ≡ replies viewer g calls'

-- ---- a fitter

-- what tests 5 and 6 say of the job of the sector that a Fetch is for, and the words that it is lent
abbrev pub finished_at_of : Hub → Call → ℕ
finished_at_of h (hand_in role i rec lent) = 0
finished_at_of h (run role i request lent) = 0
finished_at_of h (fetch role i buffer lent) = first (job_test (job_at_of h.desk i)) (end_test (job_at_of h.desk i))
finished_at_of h (heard role i) = 0
finished_at_of h (begin role) = 0
finished_at_of h (set_shares role shares eight) = 0

abbrev pub fetched_from : Hub → Call → List ℤ
fetched_from h (hand_in role i rec lent) = []
fetched_from h (run role i request lent) = []
fetched_from h (fetch role i buffer lent) = lent_words (h.area i) lent
fetched_from h (heard role i) = []
fetched_from h (begin role) = []
fetched_from h (set_shares role shares eight) = []

-- one of its calls, its buffer with it, and these as the call finds them
pub record Fitted : Type 0 where
  pub call : Call
  pub heard : List ℕ
  pub finished : ℕ
  pub words : List ℤ

abbrev pub fitted_at : Hub → Call → Fitted
fitted_at h c = record { call = asked c; heard = h.desk.heard; finished = finished_at_of h c; words = fetched_from h c }

abbrev pub fitted : Hub → List Call → List Fitted
fitted h calls = each_by fitter fitted_at h calls

-- so its replies depend on nothing else: neither on how many turns were made, beyond test 5, nor on shares and remaining counts, nor on what waits
abbrev pub OnlyResults : Type 0
OnlyResults = (h g : Hub) (calls calls' : List Call) → fitted h calls ≡ fitted g calls' → replies fitter h calls ≡ replies fitter g calls'

-- ---- the premises can be met

-- each call of the list is of this role
abbrev pub AllBy : ℕ → List Call → Type 0
AllBy role calls = (c : Call) → Place c calls → role_of c ≡ role

-- by any two accepted matrices that have the same heard byte, each handed in for the same sector of a new desk and run with any request, and then any calls of
-- viewers
abbrev pub worked_hub : ℕ → ℕ → (ℕ → List ℤ) → Load → Hub
worked_hub i request areas l = after (new areas) (hand_in operator i l.bytes its ∷ run operator i request its ∷ [])

abbrev pub ViewersAlike : Type 0
ViewersAlike = (i request request' : ℕ) (areas areas' : ℕ → List ℤ) (l l' : Load) (calls : List Call) → i < sector_count → l.lent ≡ areas i → l'.lent ≡ areas' i
    → heard_byte_of l.bytes ≡ heard_byte_of l'.bytes → AllBy viewer calls → viewed (worked_hub i request areas l) calls ≡ viewed (worked_hub i request' areas' l') calls

-- by a desk and one with the same turn numbers, but no turn made, at which a round has begun, other shares are set and another matrix waits, and then any calls of
-- fitters; no job of the first has more turns made than its turn number
abbrev pub unmade : Job → Job
unmade job = record { turn = job.turn; made = 0 }

abbrev pub unworked : Desk → Desk
unworked desk =
    record { jobs = map unmade desk.jobs; heard = desk.heard; shares = desk.shares; left = desk.left; waits = desk.waits; records = desk.records }

abbrev pub otherwise : Hub → List ℕ → ℕ → List ℕ → Hub
otherwise h shares i rec = record { desk = kept (shared (begun (unworked h.desk)) shares) i rec; area = h.area }

abbrev pub FittersAlike : Type 0
FittersAlike = (h : Hub) (shares : List ℕ) (i : ℕ) (rec : List ℕ) (calls : List Call) → ((k : ℕ) → (job_at_of h.desk k).made ≤ (job_at_of h.desk k).turn)
    → AllBy fitter calls → fitted h calls ≡ fitted (otherwise h shares i rec) calls
