-- Run for a sector: what it answers and what it leaves in the area, on all inputs. Assumes nothing.
use Rattle.std.specs.Prelude.{ℕ, zero, suc, ◌-◌, min, ◌&&◌, List, ltb, eqb, ℤ}
use Rattle.refusals.specs.Refusals.{count_used_up, first, fails_if}
use Rattle.schedule.specs.Schedule.{rotation_count}
use Rattle.engine.specs.declared.job.Job.{Job}
use Rattle.engine.specs.Job.{no_job}
use Rattle.engine.specs.Run.{run_refusal_of, run_done}
use Rattle.desk.specs.declared.Desk.{Desk}
use Rattle.desk.specs.declared.run.DeskRunReply.{DeskRunReply}
use Rattle.desk.specs.Desk.{job_at_of, left_at_of, paid}
use Rattle.desk.specs.Roles.{may_operate_of, admission_test}

pub record DeskRunOutcome : Type 0 where
  pub reply : DeskRunReply
  pub area : List ℤ

-- 13: a request above 0 for an unfinished job when the sector's own count is used up
unfoldable pub count_test : Job → ℕ → ℕ → ℕ
count_test job left request = fails_if (ltb 0 request && (ltb job.turn rotation_count && eqb left 0)) count_used_up

-- tests 15 and 12, the engine's tests for Run, and then 13
unfoldable pub desk_run_refusal : ℕ → Desk → ℕ → ℕ → List ℤ → ℕ
desk_run_refusal role desk sector request area =
    first (admission_test (may_operate_of role) sector) (first (run_refusal_of (job_at_of desk sector) area) (count_test (job_at_of desk sector) (left_at_of desk sector) request))

-- the smallest of the request, the sector's own count and what its job has left
abbrev pub grant : Job → ℕ → ℕ → ℕ
grant job left request = min (min request left) (rotation_count - job.turn)

-- the sector's job is worked `count` turns on, as the engine's Run does it, and its count pays them
unfoldable pub desk_run_done : Desk → ℕ → ℕ → List ℤ → DeskRunOutcome
desk_run_done desk sector count area =
    let o = run_done (job_at_of desk sector) count area in
    let r = o.reply in
    record {
      reply = record { desk = paid desk sector r.job (left_at_of desk sector - count); number = 0; job = r.job; count = r.count; clamps_r = r.clamps_r; clamps_q = r.clamps_q };
      area = o.workspace;
    }

-- by the number of the tests; a refusal answers its number and the desk as it was, other fields 0, the job too, and changes nothing
unfoldable pub desk_run_by : ℕ → Desk → ℕ → ℕ → List ℤ → DeskRunOutcome
desk_run_by zero desk sector request area = desk_run_done desk sector (grant (job_at_of desk sector) (left_at_of desk sector) request) area
desk_run_by (suc n) desk sector request area =
    record { reply = record { desk = desk; number = suc n; job = no_job; count = 0; clamps_r = 0; clamps_q = 0 }; area = area }

unfoldable pub desk_run_of : ℕ → Desk → ℕ → ℕ → List ℤ → DeskRunOutcome
desk_run_of role desk sector request area = desk_run_by (desk_run_refusal role desk sector request area) desk sector request area
