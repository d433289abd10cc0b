-- What is noted of a sector besides the desk: which record was handed in last, which one its job was loaded from, and its calls since. The records are those
-- that the hand-ins had; none is read from the desk. Assumes nothing.
use Rattle.std.specs.Prelude.{Bool, true, false, List, [], ◌∷◌, ℕ, zero, suc, ℤ}
use Rattle.desk_laws.specs.Calls.{Call, hand_in, run, fetch, heard, begin, set_shares, Hub, new, loads, answer, next, Kind, own, other, round, setting, kind, LentIts}

pub data Handed : Type 0 where
  nothing : Handed
  matrix : List ℕ → Handed

pub record Ledger : Type 0 where
  -- the record of the sector's last accepted hand-in
  pub handed : Handed
  -- the one that its job was loaded from: at a load, direct or by a Fetch that brings in, the one handed in last
  pub source : Handed
  -- the sector's accepted calls since that load, the last one first
  pub since : List Call

abbrev pub fresh : Ledger
fresh = record { handed = nothing; source = nothing; since = [] }

-- by an accepted call
abbrev pub handed_by : Call → Handed → Handed
handed_by (hand_in role i rec lent) m = matrix rec
handed_by (run role i request lent) m = m
handed_by (fetch role i buffer lent) m = m
handed_by (heard role i) m = m
handed_by (begin role) m = m
handed_by (set_shares role shares eight) m = m

-- by whether it loads the sector
abbrev pub entered : Bool → Call → Ledger → Ledger
entered true c g = let m = handed_by c g.handed in record { handed = m; source = m; since = [] }
entered false c g = record { handed = handed_by c g.handed; source = g.source; since = c ∷ g.since }

-- by its number: of a refused call nothing is noted
abbrev pub if_accepted : ℕ → Bool → Call → Ledger → Ledger
if_accepted zero b c g = entered b c g
if_accepted (suc n) b c g = g

-- by its kind: nor of calls that are not the sector's
abbrev pub noted_by : Kind → ℕ → Bool → Call → Ledger → Ledger
noted_by own n b c g = if_accepted n b c g
noted_by other n b c g = g
noted_by round n b c g = g
noted_by (setting s) n b c g = g

abbrev pub noted : ℕ → Hub → Call → Ledger → Ledger
noted i h c g = noted_by (kind i c) (answer h c).number (loads h c) c g

unfoldable pub ledger_after : ℕ → Hub → Ledger → List Call → Ledger
ledger_after i h g [] = g
ledger_after i h g (c ∷ calls) = ledger_after i (next h c) (noted i h c g) calls

-- after calls from a new desk on
abbrev pub ledger : ℕ → (ℕ → List ℤ) → List Call → Ledger
ledger i areas calls = ledger_after i (new areas) fresh calls

-- each of these calls was lent its sector's area
unfoldable pub EachIts : List Call → Type 0
EachIts [] = Unit {0}
EachIts (c ∷ calls) = LentIts c × EachIts calls
