-- Document 02, U5: the job, turn number and turns truly made since Load, which Load, Run and Read answer and Run and Fetch take; and document 01's tests 5
-- and 6 of it. Assumes nothing.
use Rattle.std.specs.Prelude.{ℕ, ◌||◌, ltb}
use Rattle.refusals.specs.Refusals.{no_such_job, unfinished, fails_if}
use Rattle.schedule.specs.Schedule.{rotation_count}
use Rattle.engine.specs.declared.job.Job.{Job}

-- of a workspace that Load filled, and of one that Read filled
abbrev pub loaded_job : Job
loaded_job = record { turn = 0; made = 0 }

abbrev pub read_job : Job
read_job = record { turn = rotation_count; made = 0 }

-- what a refused Load or Read answers in its place
abbrev pub no_job : Job
no_job = record { turn = 0; made = 0 }

-- 5: turn number above 120, or more made than the turn number
unfoldable pub job_test : Job → ℕ
job_test job = fails_if (ltb rotation_count job.turn || ltb job.turn job.made) no_such_job

-- 6: turn number under 120
abbrev pub end_test : Job → ℕ
end_test job = fails_if (ltb job.turn rotation_count) unfinished
