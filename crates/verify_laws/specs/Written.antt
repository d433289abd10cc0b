-- Document 02, U13: "What our engine writes for a matrix, under the mission's premises, gets yes with that matrix." Each accepted Fetch in step of a list of
-- calls, an accepted Whole, and each result fetched at the desk, under U11's premises; and lists of calls that meet these. Assumes nothing.
use Rattle.std.specs.Prelude.{◌≡◌, List, ℕ, ◌+◌, ◌*◌, ◌≤◌, ◌<◌, ℤ, length, take}
use Rattle.lists.specs.Lists.{sum_of}
use Rattle.lists.specs.Histories.{Place}
use Rattle.words.specs.Words.{Bytes}
use Rattle.schedule.specs.Schedule.{rotation_count}
use Rattle.result_record.specs.ResultRecord.{result_bytes}
use Rattle.engine.specs.Whole.{whole_refusal_of, whole_of}
use Rattle.accuracy.specs.Demand3.{Load, EachInStep, FetchCall, fetched, found}
use Rattle.accuracy.specs.Demand3 as engine
use Rattle.accuracy.specs.Instalments.{next_fetch, after_instalments}
use Rattle.desk.specs.Desk.{sector_count, round_turns}
use Rattle.desk.specs.Roles.{fitter, operator}
use Rattle.desk_laws.specs.Calls.{its, Call, fetch, new, answer, after, Accepted, other, kind}
use Rattle.desk_laws.specs.Ledger.{ledger}
use Rattle.desk_laws.specs.Results.{InStep}
use Rattle.desk_laws.specs.Early.{early, both_worked}
use Rattle.verify_laws.specs.Answers.{Yes}

-- the result record in the first bytes of a buffer
abbrev pub written_in : List ℕ → List ℕ
written_in buffer = take result_bytes buffer

-- demand 3's premise: each accepted call of the list is in step
abbrev pub FetchedYes : Type 0
FetchedYes = (l : Load) (calls : List engine.Call) → EachInStep l calls → (f : FetchCall) (p : Place (engine.fetch f) calls)
    → engine.Accepted (found l p) (engine.fetch f) → Yes l.bytes (written_in (fetched (found l p) f))

abbrev pub WholeYes : Type 0
WholeYes = (matrix : List ℕ) (lent : List ℤ) (buffer : List ℕ) → Bytes matrix → whole_refusal_of matrix lent buffer ≡ 0
    → Yes matrix (written_in (whole_of matrix lent buffer).buffer)

-- U11's: the sector was loaded from this record, and each of its accepted calls since was lent the area that the load filled
abbrev pub SectorYes : Type 0
SectorYes = (role i : ℕ) (areas : ℕ → List ℤ) (calls : List Call) (buffer matrix : List ℕ) → i < sector_count → InStep matrix (ledger i areas calls)
    → (let h = after (new areas) calls in
    Accepted h (fetch role i buffer its) → Yes matrix (written_in (answer h (fetch role i buffer its)).buffer))

-- ---- lists of calls that meet these premises

-- for every accepted Load, Runs of any allowances that make 120 or more, and a Fetch
abbrev pub InstalmentsYes : Type 0
InstalmentsYes = (l : Load) (budgets buffer : List ℕ) → rotation_count ≤ sum_of budgets → result_bytes ≤ length buffer
    → (let s = after_instalments l budgets in Yes l.bytes (written_in (fetched s (next_fetch s buffer))))

-- and at the desk: one matrix is worked while the next one waits, and each of the results gets yes with its own matrix, for a fitter too
pub record EachYes (i : ℕ) (areas : ℕ → List ℤ) (matrix later buffer : List ℕ) (first second : List Call) : Type 0 where
  pub first_out : Yes matrix (written_in (answer (after (new areas) first) (fetch operator i buffer its)).buffer)
  pub fitter_out : Yes matrix (written_in (answer (after (new areas) first) (fetch fitter i buffer its)).buffer)
  pub second_out : Yes later (written_in (answer (after (new areas) second) (fetch operator i buffer its)).buffer)

abbrev pub BothYes : Type 0
BothYes = (i s : ℕ) (areas : ℕ → List ℤ) (l later : Load) (others : List Call) (k m : ℕ) (buffer : List ℕ) → i < sector_count → 0 < s → s ≤ round_turns
    → l.lent ≡ areas i → ((c : Call) → Place c others → kind i c ≡ other) → k * s < rotation_count → rotation_count ≤ (k + m) * s → result_bytes ≤ length buffer
    → EachYes i areas l.bytes later.bytes buffer (early i s l later others k m) (both_worked i s l later others k m buffer)
