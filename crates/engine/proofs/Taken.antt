-- A Run that is accepted with a budget that its job has left takes just that many turns and answers a job that can be, and a Run of none leaves everything
-- as it was. Assumes nothing.
use mathlib.Core.Path.{◌≡◌}
use mathlib.Core.List.{List}
use Prim.Native.Nat.{ℕ, ◌+◌, ◌-◌, ◌≤◌, min}
use native.Mathlib.Omega.{arith}
use lib.IntN.{ℤ}
use Rattle.workspace.specs.Rotations.{words_after, saturations_counted, turns_made}
use Rattle.workspace.proofs.WordsAfter.{turns_made_le}
use Rattle.engine.specs.declared.job.Job.{Job}
use Rattle.engine.specs.Run.{run_refusal_of, next_job, run_done, run_by, run_of}
use Rattle.engine.proofs.Accepted.{PossibleJob}

pub all_taken : (job : Job) (budget : ℕ) (l : List ℤ) → run_refusal_of job l ≡ 0 → budget ≤ 120 - job.turn → run_of job budget l ≡ run_done job budget l
unfolding run_of run_by
all_taken job budget l e fits = let z : min budget (120 - job.turn) ≡ budget = omega arith in rw (e, z)

pub possible_next : (job : Job) (count : ℕ) (l : List ℤ) → count ≤ 120 - job.turn → PossibleJob job → PossibleJob (next_job job count l)
unfolding next_job
possible_next job count l fits p =
    record { turn = omega (arith, fits, p.turn); made = omega (arith, p.made, turns_made_le job.turn count l) }

pub none_taken : (job : Job) (l : List ℤ) → run_done job 0 l ≡ record { reply = record { number = 0; job = job; count = 0; clamps_r = 0; clamps_q = 0 }; workspace = l }
unfolding run_done next_job words_after turns_made saturations_counted
none_taken job l =
    let x : job.turn + 0 ≡ job.turn = omega arith in
    let y : job.made + 0 ≡ job.made = omega arith in
    rw (x, y)
