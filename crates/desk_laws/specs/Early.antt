-- Document 02, U11 and U12: the premises can be met. For any two accepted matrices, in any sector and with any share from 1 to 120, whatever others do: after some
-- rounds, the first being unfinished, the second is handed in; the first is worked to the end and fetched, by a fitter while the second waits on and by the operator,
-- so that the second comes in, is worked and is fetched, and fetched once more. Both results meet their bounds against their own records. Assumes nothing.
use Rattle.std.specs.Prelude.{◌≡◌, true, false, List, [], ◌∷◌, ◌++◌, ℕ, ◌+◌, ◌*◌, ◌≤◌, ◌<◌, ℤ, length}
use Rattle.lists.specs.Histories.{Place}
use Rattle.schedule.specs.Schedule.{rotation_count}
use Rattle.result_record.specs.ResultRecord.{result_bytes}
use Rattle.accuracy.specs.Demand3.{Load}
use Rattle.desk.specs.Desk.{sector_count, round_turns, waits_at_of}
use Rattle.desk.specs.Roles.{fitter, operator}
use Rattle.desk_laws.specs.Calls.{its, Call, hand_in, fetch, new, loads, answer, next, after, Accepted, other, kind, Loads, EachNoLoad}
use Rattle.desk_laws.specs.Ledger.{matrix, ledger}
use Rattle.desk_laws.specs.Finish.{EachUndisturbed, in_rounds, EachRequests}
use Rattle.desk_laws.specs.Results.{InStep, Result}
use Rattle.desk_laws.specs.Served.{giving, requesting}

-- m rounds in each of which the operator requests the sector's share s
abbrev pub rounds : ℕ → ℕ → List Call → ℕ → List Call
rounds i s others m = in_rounds (requesting i s others m)

-- one matrix is handed in and worked for k rounds
abbrev pub under_way : ℕ → ℕ → Load → List Call → ℕ → List Call
under_way i s l others k = giving i s ∷ hand_in operator i l.bytes its ∷ rounds i s others k

-- another one is handed in, and the first is worked for m rounds more
abbrev pub early : ℕ → ℕ → Load → Load → List Call → ℕ → ℕ → List Call
early i s l later others k m = under_way i s l others k ++ hand_in operator i later.bytes its ∷ rounds i s others m

-- the operator fetches the first, which brings the other one in, and that is worked
abbrev pub both_worked : ℕ → ℕ → Load → Load → List Call → ℕ → ℕ → List ℕ → List Call
both_worked i s l later others k m buffer = early i s l later others k m ++ fetch operator i buffer its ∷ rounds i s others (k + m)

-- after these calls a Fetch of this role is accepted, in step, and has the result of this matrix
pub record ComesOut (role i : ℕ) (areas : ℕ → List ℤ) (calls : List Call) (buffer rec : List ℕ) : Type 0 where
  pub accepted : Accepted (after (new areas) calls) (fetch role i buffer its)
  pub in_step : InStep rec (ledger i areas calls)
  pub result : Result rec ((after (new areas) calls).area i) buffer (answer (after (new areas) calls) (fetch role i buffer its)).buffer

-- by the calls up to the first Fetch, and by those up to the second
pub record Both (i s : ℕ) (areas : ℕ → List ℤ) (l later : Load) (others : List Call) (rest : ℕ) (buffer : List ℕ) (first second : List Call) : Type 0 where
  -- while the first is worked the second waits
  pub waits : waits_at_of (after (new areas) first).desk i ≡ true
  pub first_out : ComesOut operator i areas first buffer l.bytes
  -- for a fitter too, whose Fetch leaves the second waiting
  pub fitter_out : ComesOut fitter i areas first buffer l.bytes
  pub fitter-brings-nothing : loads (after (new areas) first) (fetch fitter i buffer its) ≡ false
  pub waits_on : waits_at_of (next (after (new areas) first) (fetch fitter i buffer its)).desk i ≡ true
  -- the operator's brings the second in, which is a load, and the rounds after it meet the premises of `FinishesInTime`
  pub brings : Loads i (after (new areas) first) (fetch operator i buffer its)
  pub source : (ledger i areas (first ++ fetch operator i buffer its ∷ [])).source ≡ matrix later.bytes
  pub undisturbed : EachUndisturbed i s (next (after (new areas) first) (fetch operator i buffer its)) (rounds i s others rest)
  pub requests : EachRequests i s (next (after (new areas) first) (fetch operator i buffer its)) (requesting i s others rest)
  pub second_out : ComesOut operator i areas second buffer later.bytes
  -- nothing is brought in then, and it is fetched once more
  pub again : EachNoLoad i (after (new areas) second) (fetch operator i buffer its ∷ [])
  pub out_again : ComesOut operator i areas (second ++ fetch operator i buffer its ∷ []) buffer later.bytes

abbrev pub BothComeOut : Type 0
BothComeOut = (i s : ℕ) (areas : ℕ → List ℤ) (l later : Load) (others : List Call) (k m : ℕ) (buffer : List ℕ) → i < sector_count → 0 < s → s ≤ round_turns
    → l.lent ≡ areas i → ((c : Call) → Place c others → kind i c ≡ other) → k * s < rotation_count → rotation_count ≤ (k + m) * s → result_bytes ≤ length buffer
    → Both i s areas l later others (k + m) buffer (early i s l later others k m) (both_worked i s l later others k m buffer)
