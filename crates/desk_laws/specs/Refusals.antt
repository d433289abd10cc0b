-- Document 02, U7 and U10 to U12: a refused call answers its number and the desk as it was, all other fields 0, so that it carries no word, byte or count of
-- anyone, and changes neither area nor buffer; what is not allowed to a role is refused with 15, ahead of all other numbers, and a sector above 7 with 12, ahead
-- of all but 15: on every desk, also one that a host made up. Assumes nothing.
use Rattle.std.specs.Prelude.{◌≡◌, true, false, List, [], ℕ, ◌≤◌, ℤ, length}
use Rattle.refusals.specs.Refusals.{no_such_sector, not_allowed}
use Rattle.desk.specs.Desk.{sector_count}
use Rattle.desk.specs.Roles.{may_operate_of, may_fetch_of, may_hear_of}
use Rattle.desk_laws.specs.Calls.{Lent, Call, hand_in, run, fetch, heard, begin, set_shares, Hub, lent_words, bare, answer, next, Accepted}

-- the bytes and the words that a call is lent
abbrev pub buffer_lent : Call → List ℕ
buffer_lent (hand_in role i rec lent) = []
buffer_lent (run role i request lent) = []
buffer_lent (fetch role i buffer lent) = buffer
buffer_lent (heard role i) = []
buffer_lent (begin role) = []
buffer_lent (set_shares role shares eight) = []

abbrev pub words_lent : Hub → Call → List ℤ
words_lent h (hand_in role i rec lent) = lent_words (h.area i) lent
words_lent h (run role i request lent) = lent_words (h.area i) lent
words_lent h (fetch role i buffer lent) = lent_words (h.area i) lent
words_lent h (heard role i) = []
words_lent h (begin role) = []
words_lent h (set_shares role shares eight) = []

pub record Unchanged (h : Hub) (c : Call) : Type 0 where
  pub desk : (next h c).desk ≡ h.desk
  pub area : (i : ℕ) → (next h c).area i ≡ h.area i
  pub answer : answer h c ≡ bare (answer h c).number (buffer_lent c) (words_lent h c)

abbrev pub RefusalsChangeNothing : Type 0
RefusalsChangeNothing = (h : Hub) (c : Call) → (Accepted h c → ⊥) → Unchanged h c

-- so there are refused calls, whatever the desk, the areas and all that a call is handed: those of roles that may not make them, for whatever sector
pub record NotAllowed (h : Hub) (role : ℕ) : Type 0 where
  pub hand_in : may_operate_of role ≡ false → (i : ℕ) (rec : List ℕ) (lent : Lent) → (answer h (hand_in role i rec lent)).number ≡ not_allowed
  pub run : may_operate_of role ≡ false → (i request : ℕ) (lent : Lent) → (answer h (run role i request lent)).number ≡ not_allowed
  pub fetch : may_fetch_of role ≡ false → (i : ℕ) (buffer : List ℕ) (lent : Lent) → (answer h (fetch role i buffer lent)).number ≡ not_allowed
  pub heard : may_hear_of role ≡ false → (i : ℕ) → (answer h (heard role i)).number ≡ not_allowed
  pub begin : may_operate_of role ≡ false → (answer h (begin role)).number ≡ not_allowed
  pub set_shares_lem : may_operate_of role ≡ false → (shares : List ℕ) (eight : length shares ≡ sector_count) → (answer h (set_shares role shares eight)).number ≡ not_allowed

abbrev pub FifteenFirst : Type 0
FifteenFirst = (h : Hub) (role : ℕ) → NotAllowed h role

-- and those for a sector above 7 of roles that may make them
pub record NoSector (h : Hub) (i : ℕ) : Type 0 where
  pub hand_in : (role : ℕ) (rec : List ℕ) (lent : Lent) → may_operate_of role ≡ true → (answer h (hand_in role i rec lent)).number ≡ no_such_sector
  pub run : (role request : ℕ) (lent : Lent) → may_operate_of role ≡ true → (answer h (run role i request lent)).number ≡ no_such_sector
  pub fetch : (role : ℕ) (buffer : List ℕ) (lent : Lent) → may_fetch_of role ≡ true → (answer h (fetch role i buffer lent)).number ≡ no_such_sector
  pub heard : (role : ℕ) → may_hear_of role ≡ true → (answer h (heard role i)).number ≡ no_such_sector

abbrev pub TwelveFirst : Type 0
TwelveFirst = (h : Hub) (i : ℕ) → sector_count ≤ i → NoSector h i
