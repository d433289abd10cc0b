-- Demand 3, as document 01's "Lists of calls" spells it out, with the clamps by side (document 02, U1) and over jobs (U5): one statement about every list of
-- later calls after an accepted Load. Each call does what its own definition says (`load_of`, `run_of`, `fetch_of`), which the contracts of the calls equate the code
-- with. Assumes nothing.
use Rattle.std.specs.Prelude.{◌≡◌, ◌↔◌, List, ◌++◌, ℕ, zero, suc, ◌+◌, ◌^◌, ◌≤◌, ◌<◌, min, ℤ, ◌-ℤ◌, length, get_or, drop}
use Rattle.integers.specs.Within.{Within}
use Rattle.lists.specs.Histories.{after_all, Place, Point, Each}
use Rattle.rotation.specs.Saturations.{no_saturations}
use Rattle.schedule.specs.Schedule.{rotation_count, rotation_at_of}
use Rattle.matrix_record.specs.MatrixRecord.{real_entry_of}
use Rattle.result_record.specs.ResultRecord.{result_bytes, result_record_of}
use Rattle.workspace.specs.Workspace.{word_in, R, Q}
use Rattle.workspace.specs.Rotations.{workspace_saturations, words_after, turns_made}
use Rattle.engine.specs.declared.job.Job.{Job}
use Rattle.engine.specs.declared.run.RunReply.{RunReply}
use Rattle.engine.specs.Load.{load_refusal_of, load_of}
use Rattle.engine.specs.Run.{RunOutcome, run_refusal_of, run_of}
use Rattle.engine.specs.Fetch.{fetch_refusal_of, fetch_of}
use Rattle.accuracy.specs.Factorization.{gram, Factorization}

-- ---- a call

-- the workspace that it is lent: the one that Load filled, as the call before left it, or any other
pub data Lent : Type 0 where
  loaded : Lent
  other : List ℤ → Lent

-- a Run: the job that it is handed, its allowance, and what it is lent
pub record RunCall : Type 0 where
  pub job : Job
  pub budget : ℕ
  pub lent : Lent

-- a Fetch: the job that it is handed, what it is lent, and the buffer as it is handed over
pub record FetchCall : Type 0 where
  pub job : Job
  pub lent : Lent
  pub buffer : List ℕ

pub data Call : Type 0 where
  run : RunCall → Call
  fetch : FetchCall → Call

abbrev pub job_of : Call → Job
job_of (run r) = r.job
job_of (fetch f) = f.job

abbrev pub lent_of : Call → Lent
lent_of (run r) = r.lent
lent_of (fetch f) = f.lent

-- ---- what stands between two calls

pub record State : Type 0 where
  -- the words of the workspace that Load filled
  pub workspace : List ℤ
  -- the job that Load or the last accepted Run answered
  pub job : Job
  -- the sum of the allowances of the accepted Runs so far
  pub granted : ℕ

-- the words that a call is lent
abbrev pub words_of : State → Lent → List ℤ
words_of s loaded = s.workspace
words_of s (other l) = l

-- the workspace that Load filled, after a call that left the words l in what it was lent
abbrev pub left_in : State → Lent → List ℤ → List ℤ
left_in s loaded l = l
left_in s (other m) l = s.workspace

-- ---- a call, by its own definition

abbrev pub ran : State → RunCall → RunOutcome
ran s r = run_of r.job r.budget (words_of s r.lent)

abbrev pub reply : State → RunCall → RunReply
reply s r = (ran s r).reply

-- the buffer as a Fetch leaves it
abbrev pub fetched : State → FetchCall → List ℕ
fetched s f = (fetch_of f.job (words_of s f.lent) f.buffer).buffer

-- the number of the first test that fails, 0 for none
abbrev pub refusal : State → Call → ℕ
refusal s (run r) = run_refusal_of r.job (words_of s r.lent)
refusal s (fetch f) = fetch_refusal_of f.job (words_of s f.lent) f.buffer

-- none of the call's tests fails
abbrev pub Accepted : State → Call → Type 0
Accepted s c = refusal s c ≡ 0

-- lent the workspace that Load filled and handed the job that Load or the last accepted Run answered, both parts
abbrev pub InStep : State → Call → Type 0
InStep s c = (lent_of c ≡ loaded) × (job_of c ≡ s.job)

-- ---- from call to call

-- the one where a call was accepted (its number is 0), else the other
abbrev pub if_accepted : {A : Type 0} → ℕ → A → A → A
if_accepted zero x y = x
if_accepted (suc number) x y = y

-- after a Run: an accepted one answers the next job, and its allowance counts
abbrev pub moved : State → RunCall → RunOutcome → State
moved s r o =
    record {
      workspace = left_in s r.lent o.workspace;
      job = if_accepted o.reply.number o.reply.job s.job;
      granted = if_accepted o.reply.number (s.granted + r.budget) s.granted;
    }

-- a Fetch is lent the workspace to read only, and has its own buffer
abbrev pub after : State → Call → State
after s (run r) = moved s r (ran s r)
after s (fetch f) = s

-- ---- an accepted Load, and the state that it leaves

pub record Load : Type 0 where
  pub bytes : List ℕ
  pub lent : List ℤ
  -- each of them is a byte
  pub small : (k : ℕ) → get_or bytes k 0 < 256
  -- none of Load's tests fails
  pub accepted : load_refusal_of bytes lent ≡ 0

unfoldable pub start : Load → State
start l =
    let o = load_of l.bytes l.lent in
    record { workspace = o.workspace; job = o.reply.job; granted = 0 }

-- ---- the places of a list

-- what the call at a place finds, and what stands at a point
abbrev pub found : {c : Call} {calls : List Call} → Load → Place c calls → State
found l p = after_all after (start l) p.before

abbrev pub reached : {calls : List Call} → Load → Point calls → State
reached l p = after_all after (start l) p.before

-- the premise: each accepted call is in step
unfoldable pub EachInStep : Load → List Call → Type 0
EachInStep l calls = Each after (λ s c. Accepted s c → InStep s c) (start l) calls

-- ---- the promise

-- the words after the first k turns of the schedule
unfoldable pub workspace_after : List ℤ → ℕ → List ℤ
workspace_after l k = words_after 0 k l

-- how many of these turns are truly made
unfoldable pub made_after : List ℤ → ℕ → ℕ
made_after l k = turns_made 0 k l

-- what is promised of a list of calls
pub record Kept (l : Load) (calls : List Call) : Type 0 where
  -- no word is ever clamped: step 4 counts none on either side in any turn, and every Run, a refused one too, answers 0 clamps in R and 0 in Q
  pub no_turn_clamps : (p : Point calls) (k : ℕ) → k < min rotation_count (reached l p).granted
      → workspace_saturations (rotation_at_of k) (workspace_after (start l).workspace k) ≡ no_saturations
  pub no_run_clamps : (r : RunCall) (p : Place (run r) calls) → ((reply (found l p) r).clamps_r ≡ 0) × ((reply (found l p) r).clamps_q ≡ 0)
  -- each accepted Run answers as turn number the smaller of 120 and the sum of the allowances of the accepted Runs so far, its own included
  pub turn_number : (r : RunCall) (p : Place (run r) calls) → Accepted (found l p) (run r)
      → (reply (found l p) r).job.turn ≡ min rotation_count ((found l p).granted + r.budget)
  -- and as turns made those of so many turns from the first on that are truly made: the same in total however the allowances cut the work
  pub made_total : (r : RunCall) (p : Place (run r) calls) → Accepted (found l p) (run r)
      → (reply (found l p) r).job.made ≡ made_after (start l).workspace (min rotation_count ((found l p).granted + r.budget))
  -- these are never more than the turn number, and so 120 at most
  pub made_few : (r : RunCall) (p : Place (run r) calls) → Accepted (found l p) (run r)
      → ((reply (found l p) r).job.made ≤ (reply (found l p) r).job.turn) × ((reply (found l p) r).job.made ≤ rotation_count)
  -- a Fetch in step is accepted exactly when the allowances make 120 or more and its buffer has 2,049 bytes or more
  pub fetch_accepted : (f : FetchCall) (p : Place (fetch f) calls) → InStep (found l p) (fetch f)
      → Accepted (found l p) (fetch f) ↔ ((rotation_count ≤ (found l p).granted) × (result_bytes ≤ length f.buffer))
  -- the workspace is what turns 0, 1, .. in tree order make of the loaded words: as many as the allowances make, 120 at most
  pub words : (p : Point calls) → (reached l p).workspace ≡ workspace_after (start l).workspace (min rotation_count (reached l p).granted)
  -- after each of the turns so far, the sum of products of any two columns lies within 2^44 of that of the loaded words
  pub bounded : (p : Point calls) (k : ℕ) → k ≤ min rotation_count (reached l p).granted → (a b : ℕ) → a < 32 → b < 32
      → Within (gram (word_in (workspace_after (start l).workspace k)) a b -ℤ gram (word_in (start l).workspace) a b) (2 ^ 44)
  -- once the allowances make 120 or more, the matrix is worked to the end
  pub factored : (p : Point calls) → rotation_count ≤ (reached l p).granted
      → Factorization (real_entry_of l.bytes) (R (reached l p).workspace) (Q (reached l p).workspace)
  -- every accepted Fetch writes the result record of this Q and R, and leaves the rest of its buffer
  pub written : (f : FetchCall) (p : Place (fetch f) calls) → Accepted (found l p) (fetch f)
      → fetched (found l p) f ≡ result_record_of (R (found l p).workspace) (Q (found l p).workspace) ++ drop result_bytes f.buffer

-- demand 3
abbrev pub Demand3 : Type 0
Demand3 = (l : Load) (calls : List Call) → EachInStep l calls → Kept l calls
