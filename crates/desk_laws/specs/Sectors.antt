-- Demand 3 for each sector, from a load on, direct or by a Fetch that brings in: the sector's calls, as the desk has the engine make them, are a list of
-- calls that meets demand 3's premise, and what they answer is what the desk's calls answer. Assumes nothing.
use Rattle.std.specs.Prelude.{◌≡◌, ◌↔◌, Bool, true, false, List, [], ◌∷◌, ◌++◌, ℕ, zero, suc, ◌≤◌, ◌<◌, ℤ, length, drop}
use Rattle.lists.specs.Histories.{after_all, Place, Point}
use Rattle.schedule.specs.Schedule.{rotation_count}
use Rattle.matrix_record.specs.MatrixRecord.{real_entry_of}
use Rattle.result_record.specs.ResultRecord.{result_bytes, result_record_of}
use Rattle.workspace.specs.Workspace.{R, Q}
use Rattle.engine.specs.declared.job.Job.{Job}
use Rattle.engine.specs.Run.{RunOutcome}
use Rattle.accuracy.specs.Factorization.{Factorization}
use Rattle.accuracy.specs.Demand3.{Load, State, RunCall, FetchCall, ran, refusal, fetched, start, EachInStep, Kept}
use Rattle.accuracy.specs.Demand3 as engine
use Rattle.desk.specs.Desk.{sector_count, job_at_of}
use Rattle.desk.specs.Roles.{may_fetch_of}
use Rattle.desk_laws.specs.Calls.{Lent, its, another, Call, hand_in, run, fetch, heard, begin, set_shares, Hub, new, loads, Answer, bare, answer, next, after, Accepted, Kind, own, other, round, setting, kind, Loads, EachNoLoad, EachLentIts}
use Rattle.desk_laws.specs.Refusals.{words_lent}
use Rattle.desk_laws.specs.Ledger.{matrix, ledger}

-- ---- the sector's calls as the engine has them

-- what Load filled, or any other area
abbrev pub lent_engine : Lent → engine.Lent
lent_engine its = engine.loaded
lent_engine (another m) = engine.other m

-- each is handed the job that the desk has, and a Run the turns granted for its allowance
abbrev pub engine_run : Job → ℕ → Lent → RunCall
engine_run job count lent = record { job = job; budget = count; lent = lent_engine lent }

abbrev pub engine_fetch : Job → List ℕ → Lent → FetchCall
engine_fetch job buffer lent = record { job = job; lent = lent_engine lent; buffer = buffer }

-- a Fetch of a role that may not fetch makes no call of the engine
abbrev pub if_allowed : Bool → FetchCall → List engine.Call
if_allowed true f = engine.fetch f ∷ []
if_allowed false f = []

-- by kind, and by the call's number: nor does a Run that the desk refuses
abbrev pub engine_call : Kind → ℕ → Job → Call → ℕ → List engine.Call
engine_call own zero job (run role i request lent) count = engine.run (engine_run job count lent) ∷ []
engine_call own (suc n) job (run role i request lent) count = []
engine_call own number job (fetch role i buffer lent) count = if_allowed (may_fetch_of role) (engine_fetch job buffer lent)
engine_call own number job (hand_in role i rec lent) count = []
engine_call own number job (heard role i) count = []
engine_call own number job (begin role) count = []
engine_call own number job (set_shares role shares eight) count = []
engine_call other number job c count = []
engine_call round number job c count = []
engine_call (setting s) number job c count = []

unfoldable pub engine_calls : ℕ → Hub → List Call → List engine.Call
engine_calls i h [] = []
engine_calls i h (c ∷ calls) = engine_call (kind i c) (answer h c).number (job_at_of h.desk i) c (answer h c).count ++ engine_calls i (next h c) calls

-- what stands after the desk's calls, by demand 3's own account of the engine's
abbrev pub state_after : ℕ → Load → Hub → List Call → State
state_after i l g calls = after_all engine.after (start l) (engine_calls i g calls)

-- ---- what is promised of the sector's calls after a load

-- the sector's area and job are those of that account, and the turns granted since the load are the turn number
pub record Follows (i : ℕ) (h : Hub) (s : State) : Type 0 where
  pub area : h.area i ≡ s.workspace
  pub job : job_at_of h.desk i ≡ s.job
  pub granted : (job_at_of h.desk i).turn ≡ s.granted

-- a Run and a Fetch of the engine as an answer of the desk; what a Fetch leaves in the area is the desk's affair
abbrev pub ran_answer : RunOutcome → Answer
ran_answer o =
    let r = o.reply in
    record { number = r.number; heard = 0; job = r.job; count = r.count; clamps-r = r.clamps_r; clamps-q = r.clamps_q; buffer = []; words = o.workspace }

abbrev pub fetched_answer : State → FetchCall → List ℤ → Answer
fetched_answer s f words = bare (refusal s (engine.fetch f)) (fetched s f) words

pub record SectorKept (i : ℕ) (l : Load) (g : Hub) (calls : List Call) : Type 0 where
  -- demand 3's premise, and its promise
  pub in_step : EachInStep l (engine_calls i g calls)
  pub kept : Kept l (engine_calls i g calls)
  -- which is one about the sector's area and job
  pub follows : (p : Point calls) → Follows i (after g p.before) (state_after i l g p.before)
  -- about what its accepted Runs answer
  pub runs : (role request : ℕ) (p : Place (run role i request its) calls)
      → (let h = after g p.before in
      let a = answer h (run role i request its) in
      a.number ≡ 0 → a ≡ ran_answer (ran (state_after i l g p.before) (engine_run (job_at_of h.desk i) a.count its)))
  -- and about what a Fetch of a role that may fetch answers at any point, a refused one too and one that brings in; one that does not leaves the area as it was
  pub fetches : (role : ℕ) (buffer : List ℕ) (p : Point calls) → may_fetch_of role ≡ true
      → (let h = after g p.before in
      let s = state_after i l g p.before in
      let c = fetch role i buffer its in
      let a = answer h c in
      (a ≡ fetched_answer s (engine_fetch (job_at_of h.desk i) buffer its) a.words) × (loads h c ≡ false → a.words ≡ s.workspace))
  -- so no Run, a refused one too, clamps a word
  pub no_clamps : (role request : ℕ) (lent : Lent) (p : Place (run role i request lent) calls)
      → (let a = answer (after g p.before) (run role i request lent) in (a.clamps-r ≡ 0) × (a.clamps-q ≡ 0))
  -- a Fetch is accepted exactly when its role may fetch, all 120 turns were granted and its buffer has 2,049 bytes or more
  pub fetch_accepted : (role : ℕ) (buffer : List ℕ) (p : Point calls)
      → (let h = after g p.before in Accepted h (fetch role i buffer its) ↔ ((may_fetch_of role ≡ true) × (rotation_count ≤ (job_at_of h.desk i).turn) × (result_bytes ≤ length buffer)))
  -- and then writes the record of the area's R and Q
  pub written : (role : ℕ) (buffer : List ℕ) (p : Point calls)
      → (let h = after g p.before in
      Accepted h (fetch role i buffer its) → (answer h (fetch role i buffer its)).buffer ≡ result_record_of (R (h.area i)) (Q (h.area i)) ++ drop result_bytes buffer)
  -- which are a factorization of the matrix that the sector was loaded with, from the moment on when all 120 turns were granted
  pub factored : (p : Point calls)
      → (let h = after g p.before in
      rotation_count ≤ (job_at_of h.desk i).turn → Factorization (real_entry_of l.bytes) (R (h.area i)) (Q (h.area i)))

-- the call c loads the sector: from this record, as the ledger has it, into these words
pub record LoadedBy (i : ℕ) (areas : ℕ → List ℤ) (before : List Call) (c : Call) (l : Load) : Type 0 where
  pub loads : Loads i (after (new areas) before) c
  pub source : (ledger i areas (before ++ c ∷ [])).source ≡ matrix l.bytes
  pub lent : words_lent (after (new areas) before) c ≡ l.lent

-- for a load after any calls, and the calls after it among which the sector is not loaded again
abbrev pub SectorDemand3 : Type 0
SectorDemand3 = (i : ℕ) (areas : ℕ → List ℤ) (before : List Call) (c : Call) (calls : List Call) (l : Load) → i < sector_count → LoadedBy i areas before c l
    → (let g = next (after (new areas) before) c in EachNoLoad i g calls → EachLentIts i g calls → SectorKept i l g calls)
