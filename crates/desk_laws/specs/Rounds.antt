-- Document 02, U10: what a sector has of a round, and that all of them together have at most 120 turns. Assumes nothing.
use Rattle.std.specs.Prelude.{◌≡◌, List, [], ◌∷◌, ℕ, ◌+◌, ◌≤◌, ◌<◌, ℤ}
use Rattle.integers.specs.Sum.{total}
use Rattle.desk.specs.Desk.{sector_count, round_turns, first_share, share_at, left_at_of}
use Rattle.desk.specs.Shares.{total_of}
use Rattle.desk_laws.specs.Calls.{Call, Hub, new, answer, next, after, Kind, own, other, round, setting, kind}

-- the turns granted to a sector so far in the round; of the counts that its calls answer only a Run's is above 0
abbrev pub tallied : Kind → ℕ → ℕ → ℕ
tallied own granted count = granted + count
tallied other granted count = granted
tallied round granted count = 0
tallied (setting s) granted count = granted

unfoldable pub granted_in : ℕ → Hub → ℕ → List Call → ℕ
granted_in i h granted [] = granted
granted_in i h granted (c ∷ calls) = granted_in i (next h c) (tallied (kind i c) granted (answer h c).count) calls

-- the share that the sector had when the round began
abbrev pub starting_at : Kind → ℕ → ℕ → ℕ
starting_at own start share = start
starting_at other start share = start
starting_at round start share = share
starting_at (setting s) start share = start

unfoldable pub starting_in : ℕ → Hub → ℕ → List Call → ℕ
starting_in i h start [] = start
starting_in i h start (c ∷ calls) = starting_in i (next h c) (starting_at (kind i c) start (share_at h.desk i)) calls

-- from a new desk on, which stands at the start of a round
abbrev pub granted_so_far : ℕ → (ℕ → List ℤ) → List Call → ℕ
granted_so_far i areas calls = granted_in i (new areas) 0 calls

abbrev pub starting_share : ℕ → (ℕ → List ℤ) → List Call → ℕ
starting_share i areas calls = starting_in i (new areas) first_share calls

pub record InRound (areas : ℕ → List ℤ) (calls : List Call) : Type 0 where
  -- what a sector was granted in the round and what it has left make the share that it had when the round began, so that its count pays each turn once
  pub own_share : (i : ℕ) → i < sector_count → granted_so_far i areas calls + left_at_of (after (new areas) calls).desk i ≡ starting_share i areas calls
  -- what all sectors were granted never makes more than 120
  pub most : total sector_count (λ i. granted_so_far i areas calls) ≤ round_turns
  -- since the shares never do, neither those that count now nor those that count from the next round on
  pub starting : total sector_count (λ i. starting_share i areas calls) ≤ round_turns
  pub shares : total_of (after (new areas) calls).desk.shares ≤ round_turns

abbrev pub RoundTotal : Type 0
RoundTotal = (areas : ℕ → List ℤ) (calls : List Call) → InRound areas calls
