-- Document 02, U5: what is already clear. A workspace whose R is finished costs no turn: a Run of any job leaves its words as they are, clamps nothing, and
-- adds none to the turns made, while turn number and count grow as ever. So a diagonal of (32767, 0) comes back as it was loaded. Assumes nothing.
use Rattle.std.specs.Prelude.{◌≡◌, refl, true, cond, List, ◌∷◌, ℕ, ◌+◌, ◌-◌, ◌%◌, ◌≤◌, ◌<◌, min, eqb, ℤ, pos, length, replicate}
use Rattle.lists.specs.Lists.{tabulate, all_below}
use Rattle.result_record.specs.ResultRecord.{is_finished_at, is_finished}
use Rattle.workspace.specs.Workspace.{word_in, R, Q}
use Rattle.engine.specs.declared.job.Job.{Job}
use Rattle.engine.specs.Job.{job_test}
use Rattle.engine.specs.Load.{load_of}
use Rattle.engine.specs.Run.{RunOutcome, run_refusal_of, run_of}

abbrev pub ClearStays : Type 0
ClearStays = (job : Job) (budget : ℕ) (l : List ℤ) → run_refusal_of job l ≡ 0 → is_finished (R l) ≡ true
    → let count = min budget (120 - job.turn) in
    run_of job budget l
    ≡ record {
      reply = record { number = 0; job = record { turn = job.turn + count; made = job.made }; count = count; clamps_r = 0; clamps_q = 0 };
      workspace = l;
    }

-- the premise can be met: a workspace of zeros
pub clear_possible : (run_refusal_of (record { turn = 0; made = 0 }) (replicate 512 (pos 0)) ≡ 0) × (is_finished (R (replicate 512 (pos 0))) ≡ true)
unfolding run_refusal_of job_test is_finished is_finished_at all_below R word_in
clear_possible = (refl, refl)

-- ---- a diagonal of (32767, 0)

-- the record: the bytes 7F and FF from byte 1 on at every 36th byte, all others 0
abbrev pub diagonal_record : List ℕ
diagonal_record = 1 ∷ tabulate 256 (λ p. cond (eqb (p % 36) 0) 127 (cond (eqb (p % 36) 1) 255 0))

-- a Load of it, and then a Run of 120
abbrev pub diagonal_run : List ℤ → RunOutcome
diagonal_run l = let o = load_of diagonal_record l in run_of o.reply.job 120 o.workspace

-- "comes back with R's diagonal 268427264, Q one and no turn made": whatever area is lent, and however its words stand
pub record DiagonalStays : Type 0 where
  pub loaded : (l : List ℤ) → 512 ≤ length l → (load_of diagonal_record l).reply ≡ record { number = 0; heard = 255; job = record { turn = 0; made = 0 } }
  pub no_turn_made : (l : List ℤ) → 512 ≤ length l → (diagonal_run l).reply.job ≡ record { turn = 120; made = 0 }
  pub diagonal-r : (l : List ℤ) → 512 ≤ length l → (i j : ℕ) → i < 16 → j < 16 → R (diagonal_run l).workspace i j ≡ cond (eqb i j) (pos 268427264) (pos 0)
  pub q_is_one : (l : List ℤ) → 512 ≤ length l → (i j : ℕ) → i < 16 → j < 16 → Q (diagonal_run l).workspace i j ≡ cond (eqb i j) (pos 1073741824) (pos 0)
