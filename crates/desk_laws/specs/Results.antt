-- Document 02, U11: the results that are fetched, by the operator or by a fitter, and until when they can be fetched again. Assumes nothing.
use Rattle.std.specs.Prelude.{◌≡◌, ◌↔◌, true, List, ◌∷◌, ◌++◌, ℕ, ◌≤◌, ◌<◌, ℤ, length, get_or, take, drop}
use Rattle.schedule.specs.Schedule.{rotation_count}
use Rattle.matrix_record.specs.MatrixRecord.{real_entry_of}
use Rattle.result_record.specs.ResultRecord.{result_bytes, result_record_of}
use Rattle.workspace.specs.Workspace.{R, Q}
use Rattle.accuracy.specs.Factorization.{Factorization}
use Rattle.desk.specs.Desk.{sector_count, job_at_of}
use Rattle.desk.specs.Roles.{may_fetch_of}
use Rattle.desk_laws.specs.Calls.{its, Call, fetch, Hub, new, answer, after, Accepted, EachNoLoad}
use Rattle.desk_laws.specs.Ledger.{Ledger, matrix, ledger, EachIts}

-- the premises: the sector was loaded, its job from the record rec, and each of the sector's accepted calls since that load was lent the area that the load
-- filled
pub record InStep (rec : List ℕ) (g : Ledger) : Type 0 where
  pub source : g.source ≡ matrix rec
  pub lent : EachIts g.since
  -- each byte of the record is one
  pub small : (k : ℕ) → get_or rec k 0 < 256

-- the bytes written are the result record of the R and the Q that the area has, and these are a factorization of the matrix, U6's bound for columns with it
pub record Result (rec : List ℕ) (words : List ℤ) (buffer written : List ℕ) : Type 0 where
  pub bytes : written ≡ result_record_of (R words) (Q words) ++ drop result_bytes buffer
  pub factored : Factorization (real_entry_of rec) (R words) (Q words)

-- the bounds hold for each result fetched from a sector that was loaded, against the matrix that its job was loaded from, whether or not another one waits; and
-- once all 120 turns were granted there is one, for every role that may fetch and every buffer of 2,049 bytes or more
pub record Fetched (role i : ℕ) (h : Hub) (buffer rec : List ℕ) : Type 0 where
  pub result : Accepted h (fetch role i buffer its) → Result rec (h.area i) buffer (answer h (fetch role i buffer its)).buffer
  pub accepted : Accepted h (fetch role i buffer its) ↔ ((may_fetch_of role ≡ true) × (rotation_count ≤ (job_at_of h.desk i).turn) × (result_bytes ≤ length buffer))

abbrev pub ResultsAccurate : Type 0
ResultsAccurate = (role i : ℕ) (areas : ℕ → List ℤ) (calls : List Call) (buffer rec : List ℕ) → i < sector_count → InStep rec (ledger i areas calls)
    → Fetched role i (after (new areas) calls) buffer rec

-- after an accepted Fetch that brings nothing in, a fitter's or one with none waiting, until the next load, each Fetch of the same area with room for a record, by
-- a role that may fetch, is accepted and writes the same bytes, whatever is called between
abbrev pub FetchRepeats : Type 0
FetchRepeats = (role role' i : ℕ) (areas : ℕ → List ℤ) (before between : List Call) (buffer buffer' : List ℕ) → i < sector_count
    → (let h = after (new areas) before in
    let c = fetch role i buffer its in
    let g = after h (c ∷ between) in
    let d = fetch role' i buffer' its in
    Accepted h c → EachNoLoad i h (c ∷ between) → may_fetch_of role' ≡ true → result_bytes ≤ length buffer'
    → Accepted g d × (take result_bytes (answer g d).buffer ≡ take result_bytes (answer h c).buffer))
