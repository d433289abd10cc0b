-- The premises of the laws can be met, for every share from 1 to 120; and U10's number of rounds is sharp. Assumes nothing.
use Rattle.std.specs.Prelude.{◌≡◌, List, [], ◌∷◌, ◌++◌, ℕ, ◌-◌, ◌*◌, ◌≤◌, ◌<◌, min, ℤ, length, replicate, set}
use Rattle.std.proofs.Common.{length-set}
use Rattle.lists.specs.Histories.{Place}
use Rattle.schedule.specs.Schedule.{rotation_count}
use Rattle.result_record.specs.ResultRecord.{result_bytes}
use Rattle.accuracy.specs.Demand3.{Load}
use Rattle.desk.specs.Desk.{sector_count, round_turns, job_at_of}
use Rattle.desk.specs.Roles.{operator}
use Rattle.desk_laws.specs.Calls.{its, Call, hand_in, run, fetch, heard, begin, set_shares, Hub, new, after, Accepted, other, kind, Loads, EachNoLoad, EachLentIts}
use Rattle.desk_laws.specs.Sectors.{LoadedBy}
use Rattle.desk_laws.specs.Finish.{EachUndisturbed, in_rounds, EachRequests, rounded_up}

-- ---- the operator gives a sector a share and hands in a matrix; then, in each of some rounds, others do what they like, and the operator requests the share

-- s for the sector, and none for the others
abbrev pub only_for : ℕ → ℕ → List ℕ
only_for i s = set (replicate sector_count 0) i s

abbrev pub giving : ℕ → ℕ → Call
giving i s = set_shares operator (only_for i s) (length-set (replicate sector_count 0) i s)

abbrev pub requesting : ℕ → ℕ → List Call → ℕ → List (List Call)
requesting i s others m = replicate m (others ++ run operator i s its ∷ [])

-- the hub after the hand-in, and after m rounds
abbrev pub loaded_hub : ℕ → ℕ → (ℕ → List ℤ) → Load → Hub
loaded_hub i s areas l = after (new areas) (giving i s ∷ hand_in operator i l.bytes its ∷ [])

abbrev pub served_hub : ℕ → ℕ → (ℕ → List ℤ) → Load → List Call → ℕ → Hub
served_hub i s areas l others m = after (loaded_hub i s areas l) (in_rounds (requesting i s others m))

pub record Served (i s : ℕ) (areas : ℕ → List ℤ) (l : Load) (others : List Call) (m : ℕ) (buffer : List ℕ) : Type 0 where
  -- the premises of `FinishesInTime`
  pub loaded : Loads i (after (new areas) (giving i s ∷ [])) (hand_in operator i l.bytes its)
  pub undisturbed : EachUndisturbed i s (loaded_hub i s areas l) (in_rounds (requesting i s others m))
  pub requests : EachRequests i s (loaded_hub i s areas l) (requesting i s others m)
  -- those of `AsAlone` and `SectorDemand3`
  pub loaded_by : LoadedBy i areas (giving i s ∷ []) (hand_in operator i l.bytes its) l
  pub lent : EachLentIts i (new areas) (giving i s ∷ hand_in operator i l.bytes its ∷ in_rounds (requesting i s others m) ++ fetch operator i buffer its ∷ [])
  pub not_loaded : EachNoLoad i (loaded_hub i s areas l) (in_rounds (requesting i s others m) ++ fetch operator i buffer its ∷ [])
  -- each round grants the share, as long as the job has so much left
  pub turn : (job_at_of (served_hub i s areas l others m).desk i).turn ≡ min (m * s) rotation_count
  -- and once it is finished, its result is fetched
  pub accepted : rotation_count ≤ m * s → Accepted (served_hub i s areas l others m) (fetch operator i buffer its)

abbrev pub ServedInRounds : Type 0
ServedInRounds = (i s : ℕ) (areas : ℕ → List ℤ) (l : Load) (others : List Call) (m : ℕ) (buffer : List ℕ) → i < sector_count → 0 < s → s ≤ round_turns → l.lent ≡ areas i
    → ((c : Call) → Place c others → kind i c ≡ other) → result_bytes ≤ length buffer → Served i s areas l others m buffer

-- ---- one round fewer than 120 divided by s, rounded up, does not do, whatever s is; with s = 7, for one, 17 rounds leave the job at 119
pub record Sharp (i : ℕ) (areas : ℕ → List ℤ) (l : Load) (others : List Call) : Type 0 where
  pub one_fewer : (s : ℕ) → 0 < s → s ≤ round_turns → (job_at_of (served_hub i s areas l others (rounded_up rotation_count s - 1)).desk i).turn < rotation_count
  pub eighteen : rounded_up rotation_count 7 ≡ 18
  pub seventeen : (job_at_of (served_hub i 7 areas l others 17).desk i).turn ≡ 119

abbrev pub NoRoundFewer : Type 0
NoRoundFewer = (i : ℕ) (areas : ℕ → List ℤ) (l : Load) (others : List Call) → i < sector_count → l.lent ≡ areas i
    → ((c : Call) → Place c others → kind i c ≡ other) → Sharp i areas l others

-- ---- a sector whose only hand-in is refused, and that makes each other call of its own
abbrev pub unserved : ℕ → ℕ → List ℕ → List Call
unserved i request buffer = hand_in operator i [] its ∷ run operator i request its ∷ begin operator ∷ fetch operator i buffer its ∷ heard operator i ∷ []

abbrev pub UnservedPossible : Type 0
UnservedPossible = (i request : ℕ) (areas : ℕ → List ℤ) (buffer : List ℕ) → i < sector_count → EachNoLoad i (new areas) (unserved i request buffer)
