-- Document 02, U10: a sector's grants depend on its own shares, job and requests and on when rounds begin, whatever the other seven do; and so does all
-- else that its calls are answered, but for the desk. Assumes nothing.
use Rattle.std.specs.Prelude.{◌≡◌, false, List, [], ◌∷◌, ◌++◌, ℕ, ◌≤◌, ◌<◌, ℤ, length, get_or}
use Rattle.lists.specs.Histories.{Place}
use Rattle.desk.specs.Desk.{sector_count, round_turns, share_at, left_at_of, waits_at_of, waiting_at}
use Rattle.desk.specs.Roles.{operator, may_operate_of}
use Rattle.desk.specs.Shares.{total_of}
use Rattle.desk_laws.specs.Calls.{Lent, Call, hand_in, run, fetch, heard, begin, set_shares, Hub, new, Answer, answer, next, after, Kind, own, other, round, setting, kind}
use Rattle.desk_laws.specs.Alone.{standing}

-- what concerns a sector in a list of calls: its own calls, refused ones too, where rounds begin, and the shares that it is given. No call of another sector
-- is seen, nor a round or a setting that is refused, nor what a setting gives to others
pub data Seen : Type 0 where
  mine : Call → Seen
  begins : Seen
  given : ℕ → Seen

abbrev pub seen_at : Kind → Call → List Seen
seen_at own c = mine c ∷ []
seen_at other c = []
seen_at round c = begins ∷ []
seen_at (setting s) c = given s ∷ []

unfoldable pub view : ℕ → List Call → List Seen
view i [] = []
view i (c ∷ calls) = seen_at (kind i c) c ++ view i calls

-- what the sector's calls are answered
abbrev pub told : Kind → Answer → List Answer → List Answer
told own a rest = a ∷ rest
told other a rest = rest
told round a rest = rest
told (setting s) a rest = rest

unfoldable pub answers : ℕ → Hub → List Call → List Answer
answers i h [] = []
answers i h (c ∷ calls) = told (kind i c) (answer h c) (answers i (next h c) calls)

-- the sector's calls are answered the same, grants and all, and its job, heard byte, area, share, count and what waits are the same in the end
pub record SameFor (i : ℕ) (h g : Hub) (calls calls' : List Call) : Type 0 where
  pub answered : answers i h calls ≡ answers i g calls'
  pub stands : standing i (after h calls) ≡ standing i (after g calls')
  pub share : share_at (after h calls).desk i ≡ share_at (after g calls').desk i
  pub left : left_at_of (after h calls).desk i ≡ left_at_of (after g calls').desk i
  pub waits : waits_at_of (after h calls).desk i ≡ waits_at_of (after g calls').desk i
  pub waiting : waiting_at (after h calls).desk i ≡ waiting_at (after g calls').desk i

abbrev pub Isolation : Type 0
Isolation = (i : ℕ) (areas areas' : ℕ → List ℤ) (calls calls' : List Call) → i < sector_count → areas i ≡ areas' i
    → view i calls ≡ view i calls' → SameFor i (new areas) (new areas') calls calls'

-- ---- so the premise can be met by lists that differ: what other sectors call may be left out, and so may a round and a setting that are refused
abbrev pub WithoutOthers : Type 0
WithoutOthers = (i : ℕ) (areas areas' : ℕ → List ℤ) (before others rest : List Call) → i < sector_count → areas i ≡ areas' i
    → ((c : Call) → Place c others → kind i c ≡ other) → SameFor i (new areas) (new areas') (before ++ others ++ rest) (before ++ rest)

-- these are no affair of sector i: each call for another sector j, whoever makes it and whatever it is handed; shares above 120 in total; and rounds and shares of
-- any role but the operator
pub record Unseen (i j : ℕ) : Type 0 where
  pub hand_in : (role : ℕ) (rec : List ℕ) (lent : Lent) → kind i (hand_in role j rec lent) ≡ other
  pub run : (role request : ℕ) (lent : Lent) → kind i (run role j request lent) ≡ other
  pub fetch : (role : ℕ) (buffer : List ℕ) (lent : Lent) → kind i (fetch role j buffer lent) ≡ other
  pub heard : (role : ℕ) → kind i (heard role j) ≡ other
  pub refused : (role : ℕ) (shares : List ℕ) (eight : length shares ≡ sector_count) → round_turns < total_of shares → kind i (set_shares role shares eight) ≡ other
  pub not_begun : (role : ℕ) → may_operate_of role ≡ false → kind i (begin role) ≡ other
  pub not_set : (role : ℕ) (shares : List ℕ) (eight : length shares ≡ sector_count) → may_operate_of role ≡ false → kind i (set_shares role shares eight) ≡ other

abbrev pub OthersUnseen : Type 0
OthersUnseen = (i j : ℕ) → (i ≡ j → ⊥) → Unseen i j

-- of all other shares, the operator's, it sees its own alone
abbrev pub OwnShareSeen : Type 0
OwnShareSeen = (i : ℕ) (shares : List ℕ) (eight : length shares ≡ sector_count) → total_of shares ≤ round_turns → kind i (set_shares operator shares eight) ≡ setting (get_or shares i 0)
