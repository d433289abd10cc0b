-- Document 02, U7 and U10 to U12: lists of calls at the desk, refused ones among them, each handed the desk that the one before answered. A sector's area is
-- written by its own calls and by nobody else. Each call does what its own definition says, which its contract equates the code with. Assumes nothing.
use Rattle.std.specs.Prelude.{◌≡◌, Bool, true, false, not, cond, List, [], ℕ, zero, suc, eqb, ℤ, length, get_or}
use Rattle.lists.specs.Histories.{after_all, Each}
use Rattle.engine.specs.declared.job.Job.{Job}
use Rattle.engine.specs.Job.{no_job}
use Rattle.desk.specs.declared.Desk.{Desk}
use Rattle.desk.specs.Desk.{sector_count, new_desk}
use Rattle.desk.specs.Roles.{may_operate_of, role_test}
use Rattle.desk.specs.HandIn.{hand_in_refusal_of, must_wait_of, hand_in_of}
use Rattle.desk.specs.Run.{desk_run_of}
use Rattle.desk.specs.Fetch.{desk_fetch_refusal, brings, desk_fetch_of}
use Rattle.desk.specs.Heard.{desk_heard_of}
use Rattle.desk.specs.Rounds.{begin_of}
use Rattle.desk.specs.Shares.{set_shares_refusal_of, set_shares_of}

-- ---- a call

-- the area that it is lent: that of its sector, which is the one that the last load filled, as the call before left it; or any other
pub data Lent : Type 0 where
  its : Lent
  another : List ℤ → Lent

-- by a role, one of the three or any other number; for a sector: a hand-in with a record, Run with a request, Fetch with its buffer as it is handed over, and
-- the heard byte; or for all: a round begins, or all eight shares are set
pub data Call : Type 0 where
  hand_in : ℕ → ℕ → List ℕ → Lent → Call
  run : ℕ → ℕ → ℕ → Lent → Call
  fetch : ℕ → ℕ → List ℕ → Lent → Call
  heard : ℕ → ℕ → Call
  begin : ℕ → Call
  set_shares : ℕ → (shares : List ℕ) → length shares ≡ sector_count → Call

-- ---- what stands between two calls

-- the desk, and the words of each sector's area
pub record Hub : Type 0 where
  pub desk : Desk
  pub area : ℕ → List ℤ

abbrev pub new : (ℕ → List ℤ) → Hub
new areas = record { desk = new_desk; area = areas }

-- the words that a call is lent
abbrev pub lent_words : List ℤ → Lent → List ℤ
lent_words area its = area
lent_words area (another m) = m

-- the sector's area after a call that left the words l in what it was lent: the area that a load filled is the sector's from there on
abbrev pub left_in : Bool → List ℤ → Lent → List ℤ → List ℤ
left_in true area lent l = l
left_in false area its l = l
left_in false area (another m) l = area

-- the areas with that of one sector replaced
unfoldable pub put : (ℕ → List ℤ) → ℕ → List ℤ → ℕ → List ℤ
put areas sector l k = cond (eqb k sector) l (areas k)

-- ---- whether a call loads its sector: a hand-in that need not wait, or the operator's Fetch, which brings in the one that waits

-- by the number of its tests: a refused call loads nothing
abbrev pub loads_if : ℕ → Bool → Bool
loads_if zero b = b
loads_if (suc n) b = false

abbrev pub loads : Hub → Call → Bool
loads h (hand_in role i rec lent) = loads_if (hand_in_refusal_of role i rec (lent_words (h.area i) lent)) (not (must_wait_of h.desk i))
loads h (run role i request lent) = false
loads h (fetch role i buffer lent) = loads_if (desk_fetch_refusal role h.desk i (lent_words (h.area i) lent) buffer) (brings role h.desk i)
loads h (heard role i) = false
loads h (begin role) = false
loads h (set_shares role shares eight) = false

-- ---- a call, by its own definition

-- what it answers, without the desk; fields that its reply has not are 0. And what it leaves in the buffer and the area that it was lent
pub record Answer : Type 0 where
  pub number : ℕ
  pub heard : ℕ
  pub job : Job
  pub count : ℕ
  pub clamps-r : ℕ
  pub clamps-q : ℕ
  pub buffer : List ℕ
  pub words : List ℤ

-- a number alone, and what was lent
abbrev pub bare : ℕ → List ℕ → List ℤ → Answer
bare number buffer words =
    record { number = number; heard = 0; job = no_job; count = 0; clamps-r = 0; clamps-q = 0; buffer = buffer; words = words }

unfoldable pub answer : Hub → Call → Answer
answer h (hand_in role i rec lent) =
    let o = hand_in_of role h.desk i rec (lent_words (h.area i) lent) in
    let r = o.reply in
    record { number = r.number; heard = r.heard; job = r.job; count = 0; clamps-r = 0; clamps-q = 0; buffer = []; words = o.area }
answer h (run role i request lent) =
    let o = desk_run_of role h.desk i request (lent_words (h.area i) lent) in
    let r = o.reply in
    record { number = r.number; heard = 0; job = r.job; count = r.count; clamps-r = r.clamps_r; clamps-q = r.clamps_q; buffer = []; words = o.area }
answer h (fetch role i buffer lent) =
    let o = desk_fetch_of role h.desk i (lent_words (h.area i) lent) buffer in
    bare o.reply.number o.buffer o.area
answer h (heard role i) =
    let r = desk_heard_of role h.desk i in
    record { number = r.number; heard = r.heard; job = no_job; count = 0; clamps-r = 0; clamps-q = 0; buffer = []; words = [] }
answer h (begin role) = bare (begin_of role h.desk).number [] []
answer h (set_shares role shares eight) = bare (set_shares_of role h.desk shares).number [] []

-- the desk that it answers, and the areas
unfoldable pub next : Hub → Call → Hub
next h (hand_in role i rec lent) =
    let o = hand_in_of role h.desk i rec (lent_words (h.area i) lent) in
    record { desk = o.reply.desk; area = put h.area i (left_in (loads h (hand_in role i rec lent)) (h.area i) lent o.area) }
next h (run role i request lent) =
    let o = desk_run_of role h.desk i request (lent_words (h.area i) lent) in
    record { desk = o.reply.desk; area = put h.area i (left_in false (h.area i) lent o.area) }
next h (fetch role i buffer lent) =
    let o = desk_fetch_of role h.desk i (lent_words (h.area i) lent) buffer in
    record { desk = o.reply.desk; area = put h.area i (left_in (loads h (fetch role i buffer lent)) (h.area i) lent o.area) }
next h (heard role i) = record { desk = (desk_heard_of role h.desk i).desk; area = h.area }
next h (begin role) = record { desk = (begin_of role h.desk).desk; area = h.area }
next h (set_shares role shares eight) = record { desk = (set_shares_of role h.desk shares).desk; area = h.area }

abbrev pub after : Hub → List Call → Hub
after h calls = after_all next h calls

-- none of the call's tests fails
abbrev pub Accepted : Hub → Call → Type 0
Accepted h c = (answer h c).number ≡ 0

-- ---- a call as a sector sees it: its own, another's, a round begins, or the sector is given a share

pub data Kind : Type 0 where
  own : Kind
  other : Kind
  round : Kind
  setting : ℕ → Kind

abbrev pub own_or : ℕ → ℕ → Kind
own_or i j = cond (eqb j i) own other

-- by the number of the begin: a round that is refused begins for nobody
abbrev pub round_by : ℕ → Kind
round_by zero = round
round_by (suc n) = other

-- by the number of the setting: shares that are refused are given to nobody
abbrev pub setting_by : ℕ → ℕ → Kind
setting_by zero share = setting share
setting_by (suc n) share = other

abbrev pub kind : ℕ → Call → Kind
kind i (hand_in role j rec lent) = own_or i j
kind i (run role j request lent) = own_or i j
kind i (fetch role j buffer lent) = own_or i j
kind i (heard role j) = own_or i j
kind i (begin role) = round_by (role_test (may_operate_of role))
kind i (set_shares role shares eight) = setting_by (set_shares_refusal_of role shares) (get_or shares i 0)

-- ---- what is said of a sector's calls

-- the call loads sector i; or it does not, and no call of a list does
abbrev pub Loads : ℕ → Hub → Call → Type 0
Loads i h c = (kind i c ≡ own) × (loads h c ≡ true)

abbrev pub NoLoad : ℕ → Hub → Call → Type 0
NoLoad i h c = kind i c ≡ own → loads h c ≡ false

unfoldable pub EachNoLoad : ℕ → Hub → List Call → Type 0
EachNoLoad i h calls = Each next (NoLoad i) h calls

-- the call is lent its sector's area, where it is lent one
abbrev pub Its : Lent → Type 0
Its its = Unit {0}
Its (another m) = ⊥

abbrev pub LentIts : Call → Type 0
LentIts (hand_in role i rec lent) = Its lent
LentIts (run role i request lent) = Its lent
LentIts (fetch role i buffer lent) = Its lent
LentIts (heard role i) = Unit {0}
LentIts (begin role) = Unit {0}
LentIts (set_shares role shares eight) = Unit {0}

-- the premise of `AsAlone` and `SectorDemand3`: each accepted call of the sector is lent its area
abbrev pub OwnLent : ℕ → Hub → Call → Type 0
OwnLent i h c = kind i c ≡ own → Accepted h c → LentIts c

unfoldable pub EachLentIts : ℕ → Hub → List Call → Type 0
EachLentIts i h calls = Each next (OwnLent i) h calls
