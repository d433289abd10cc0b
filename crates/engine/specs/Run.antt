-- Run: what it answers and what it leaves in the workspace, on all inputs. Assumes nothing.
use Rattle.std.specs.Prelude.{ℕ, zero, suc, ◌+◌, ◌-◌, min, List, ℤ, Result, Ok, Err}
use Rattle.refusals.specs.Refusals.{first}
use Rattle.refusals.specs.declared.Refusal.{Refusal}
use Rattle.refusals.specs.Outcomes.{number_of}
use Rattle.schedule.specs.Schedule.{rotation_count}
use Rattle.workspace.specs.Workspace.{workspace_test}
use Rattle.workspace.specs.Rotations.{words_after, saturations_counted, turns_made}
use Rattle.engine.specs.Job.{job_test}
use Rattle.engine.specs.declared.job.Job.{Job}
use Rattle.engine.specs.declared.run.Ran.{Ran}
use Rattle.engine.specs.declared.run.RunReply.{RunReply}

pub record RunOutcome : Type 0 where
  pub reply : RunReply
  pub workspace : List ℤ

-- the reply of an outcome, for the job that the call was handed: its values, or the refusal's number and that job
abbrev pub run_reply : Job → Result Ran Refusal → RunReply
run_reply job (Ok ran) = record { number = 0; job = ran.job; count = ran.count; clamps_r = ran.clamps.r; clamps_q = ran.clamps.q }
run_reply job (Err refusal) = record { number = number_of refusal; job = job; count = 0; clamps_r = 0; clamps_q = 0 }

-- tests 3, 5
unfoldable pub run_refusal_of : Job → List ℤ → ℕ
run_refusal_of job workspace = first (workspace_test workspace) (job_test job)

-- the job after `count` turns more: document 02's skipped turns count for the turn number, and only those truly made for the other part
unfoldable pub next_job : Job → ℕ → List ℤ → Job
next_job job count workspace = record { turn = job.turn + count; made = job.made + turns_made job.turn count workspace }

-- `count` turns: the next job, and of this call the turns and the clamps of each side (document 02, U1)
unfoldable pub run_done : Job → ℕ → List ℤ → RunOutcome
run_done job count workspace =
    let saturations = saturations_counted job.turn count workspace in
    record {
      reply = record { number = 0; job = next_job job count workspace; count = count; clamps_r = saturations.r; clamps_q = saturations.q };
      workspace = words_after job.turn count workspace;
    }

-- by the number of the tests. Of the turns that remain, the smaller of the budget (document 01's allowance) and their number is taken; a refusal answers
-- its number and the job as given, other fields 0, and changes nothing
unfoldable pub run_by : ℕ → Job → ℕ → List ℤ → RunOutcome
run_by zero job budget workspace = run_done job (min budget (rotation_count - job.turn)) workspace
run_by (suc n) job budget workspace = record { reply = record { number = suc n; job = job; count = 0; clamps_r = 0; clamps_q = 0 }; workspace = workspace }

unfoldable pub run_of : Job → ℕ → List ℤ → RunOutcome
run_of job budget workspace = run_by (run_refusal_of job workspace) job budget workspace
