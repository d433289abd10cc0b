-- What the number 0 of a call's tests says: that each test is passed; and a call that passes each test. Assumes nothing.
use mathlib.Core.Path.{◌≡◌, refl, subst}
use mathlib.Core.Bool.{Bool, true, false, ◌||◌}
use mathlib.Core.List.{List}
use Prim.Native.Nat.{ℕ, ◌≤◌}
use native.Mathlib.Omega.{arith}
use borrow.Author.Tests.{ltb-false, le-ltb}
use lib.Dec.{T, ltb, eqb}
use lib.IntN.{ℤ}
use lib.ListN.{length}
use Rattle.refusals.specs.Refusals.{header_test, buffer_test}
use Rattle.refusals.proofs.Refusals.{first-none, if_passed, unless_passed, Header, header_passed, header_passes, buffer_passed, buffer-passes}
use Rattle.matrix_record.specs.MatrixRecord.{heard_byte_of}
use Rattle.result_record.specs.ResultRecord.{record_r, is_finished}
use Rattle.workspace.specs.Workspace.{workspace_test, R}
use Rattle.engine.specs.declared.job.Job.{Job}
use Rattle.engine.specs.Job.{job_test, end_test}
use Rattle.engine.specs.Load.{load_refusal_of}
use Rattle.engine.specs.Run.{run_refusal_of}
use Rattle.engine.specs.Fetch.{fetch_refusal_of}
use Rattle.engine.specs.Read.{read_refusal_of}
use Rattle.engine.specs.Whole.{whole_refusal_of}

-- ---- single tests

pub room_passed : (l : List ℤ) → workspace_test l ≡ 0 → 512 ≤ length l
room_passed l h = ltb-false _ _ (if_passed (ltb (length l) 512) 2 h)

pub room-passes : (l : List ℤ) → 512 ≤ length l → workspace_test l ≡ 0
room-passes l h = rw (le-ltb (length l) 512 h)

neither : (a b : Bool) → (a || b) ≡ false → (a ≡ false) × (b ≡ false)
neither true b h = absurd (subst T h tt)
neither false b h = (refl, h)

-- a job that can be: its turn number is 120 at most, and no more turns are made than that
pub record PossibleJob (job : Job) : Type 0 where
  pub turn : job.turn ≤ 120
  pub made : job.made ≤ job.turn

job_passed : (job : Job) → job_test job ≡ 0 → PossibleJob job
unfolding job_test
job_passed job h =
    let n = neither (ltb 120 job.turn) (ltb job.turn job.made) (if_passed (ltb 120 job.turn || ltb job.turn job.made) 4 h) in
    record { turn = ltb-false _ _ n.0; made = ltb-false _ _ n.1 }

job-passes : (job : Job) → PossibleJob job → job_test job ≡ 0
unfolding job_test
job-passes job h = rw (le-ltb 120 job.turn h.turn, le-ltb job.turn job.made h.made)

-- ---- Load

pub record LoadAccepted (rec : List ℕ) (l : List ℤ) : Type 0 where
  pub header : Header 1 257 rec
  pub room : 512 ≤ length l
  pub heard : eqb (heard_byte_of rec) 0 ≡ false

pub load-accepted : (rec : List ℕ) (l : List ℤ) → load_refusal_of rec l ≡ 0 → LoadAccepted rec l
unfolding load_refusal_of
load-accepted rec l h =
    let a = first-none (header_test 1 257 rec) _ h in
    let b = first-none (workspace_test l) _ a.1 in
    record { header = header_passed 1 257 rec a.0; room = room_passed l b.0; heard = if_passed (eqb (heard_byte_of rec) 0) 3 b.1 }

pub load-passes : (rec : List ℕ) (l : List ℤ) → LoadAccepted rec l → load_refusal_of rec l ≡ 0
unfolding load_refusal_of
load-passes rec l a = rw (header_passes 1 256 rec a.header, room-passes l a.room, a.heard)

-- ---- Run

pub record RunAccepted (job : Job) (l : List ℤ) : Type 0 where
  pub room : 512 ≤ length l
  pub possible : PossibleJob job

pub run_accepted : (job : Job) (l : List ℤ) → run_refusal_of job l ≡ 0 → RunAccepted job l
unfolding run_refusal_of
run_accepted job l h = let a = first-none (workspace_test l) _ h in record { room = room_passed l a.0; possible = job_passed job a.1 }

pub run_passes : (job : Job) (l : List ℤ) → RunAccepted job l → run_refusal_of job l ≡ 0
unfolding run_refusal_of
run_passes job l h = rw (room-passes l h.room, job-passes job h.possible)

-- ---- Fetch

pub record FetchAccepted (job : Job) (l : List ℤ) (buffer : List ℕ) : Type 0 where
  pub room : 512 ≤ length l
  pub last : job.turn ≡ 120
  pub made : job.made ≤ 120
  pub space : 2049 ≤ length buffer
  pub finished : is_finished (R l) ≡ true

pub fetch_accepted : (job : Job) (l : List ℤ) (buffer : List ℕ) → fetch_refusal_of job l buffer ≡ 0 → FetchAccepted job l buffer
unfolding fetch_refusal_of
fetch_accepted job l buffer h =
    let a = first-none (workspace_test l) _ h in
    let b = first-none (job_test job) _ a.1 in
    let c = first-none (end_test job) _ b.1 in
    let d = first-none (buffer_test 2049 buffer) _ c.1 in
    let below = job_passed job b.0 in
    let above : 120 ≤ job.turn = ltb-false _ _ (if_passed (ltb job.turn 120) 5 c.0) in
    record { room = room_passed l a.0; last = omega (arith, below.turn); made = omega (arith, below.turn, below.made); space = buffer_passed 2049 buffer d.0; finished = unless_passed (is_finished (R l)) 7 d.1 }

pub fetch_passes : (job : Job) (l : List ℤ) (buffer : List ℕ) → FetchAccepted job l buffer → fetch_refusal_of job l buffer ≡ 0
unfolding fetch_refusal_of
fetch_passes job l buffer f =
    let possible : PossibleJob job = record { turn = omega (arith, f.last); made = omega (arith, f.last, f.made) } in
    let above : 120 ≤ job.turn = omega (arith, f.last) in
    rw (room-passes l f.room, job-passes job possible, le-ltb job.turn 120 above, buffer-passes 2049 buffer f.space, f.finished)

-- ---- Read

pub record ReadAccepted (rec : List ℕ) (l : List ℤ) : Type 0 where
  pub header : Header 2 2049 rec
  pub room : 512 ≤ length l
  pub finished : is_finished (record_r rec) ≡ true

pub read-accepted : (rec : List ℕ) (l : List ℤ) → read_refusal_of rec l ≡ 0 → ReadAccepted rec l
unfolding read_refusal_of
read-accepted rec l h =
    let a = first-none (header_test 2 2049 rec) _ h in
    let b = first-none (workspace_test l) _ a.1 in
    record { header = header_passed 2 2049 rec a.0; room = room_passed l b.0; finished = unless_passed (is_finished (record_r rec)) 7 b.1 }

pub read-passes : (rec : List ℕ) (l : List ℤ) → ReadAccepted rec l → read_refusal_of rec l ≡ 0
unfolding read_refusal_of
read-passes rec l a = rw (header_passes 2 2048 rec a.header, room-passes l a.room, a.finished)

-- ---- Whole accepts what Load accepts, with a buffer that is long enough

pub record WholeAccepted (rec : List ℕ) (l : List ℤ) (buffer : List ℕ) : Type 0 where
  pub load : LoadAccepted rec l
  pub space : 2049 ≤ length buffer

pub whole-accepted : (rec : List ℕ) (l : List ℤ) (buffer : List ℕ) → whole_refusal_of rec l buffer ≡ 0 → WholeAccepted rec l buffer
unfolding whole_refusal_of
whole-accepted rec l buffer h =
    let a = first-none (header_test 1 257 rec) _ h in
    let b = first-none (workspace_test l) _ a.1 in
    let c = first-none (buffer_test 2049 buffer) _ b.1 in
    record { load = record { header = header_passed 1 257 rec a.0; room = room_passed l b.0; heard = if_passed (eqb (heard_byte_of rec) 0) 3 c.1 }; space = buffer_passed 2049 buffer c.0 }

pub whole-passes : (rec : List ℕ) (l : List ℤ) (buffer : List ℕ) → WholeAccepted rec l buffer → whole_refusal_of rec l buffer ≡ 0
unfolding whole_refusal_of
whole-passes rec l buffer a =
    rw (header_passes 1 256 rec a.load.header, room-passes l a.load.room, buffer-passes 2049 buffer a.space, a.load.heard)
