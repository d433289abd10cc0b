-- Two Runs in a row, and any number of them, make what one Run with the sum of their budgets makes. Assumes nothing.
use mathlib.Core.Path.{◌≡◌, refl, ap, ◌∙◌}
use mathlib.Core.List.{List, [], ◌∷◌}
use Prim.Native.Nat.{ℕ, zero, suc, ◌+◌, ◌-◌, ◌≤◌, min}
use native.Mathlib.Nat.{add_assoc}
use native.Mathlib.Omega.{arith}
use lib.IntN.{ℤ}
use lib.ListN.{length}
use Rattle.lists.specs.Lists.{sum_of}
use Rattle.rotation.specs.declared.Saturations.{Saturations}
use Rattle.rotation.specs.Saturations.{added}
use Rattle.workspace.specs.Rotations.{words_after, turns_made}
use Rattle.workspace.proofs.WordsAfter.{words-length, words_more, saturations_more, turns_made_more}
use Rattle.engine.specs.declared.job.Job.{Job}
use Rattle.engine.specs.Run.{RunOutcome, run_refusal_of, next_job, run_done, run_by, run_of}
use Rattle.engine.proofs.Accepted.{PossibleJob, run_accepted, run_passes}
use Rattle.engine.proofs.Taken.{possible_next}
use Rattle.engine_laws.specs.Spread.{together, then_run, Spread, then_runs, SpreadList}

-- the outcome of k turns of a job, by its words and counts, and how many of them are made
outcome : Job → ℕ → List ℤ → Saturations → ℕ → RunOutcome
outcome job k words t made =
    record { reply = record { number = 0; job = record { turn = job.turn + k; made = job.made + made }; count = k; clamps_r = t.r; clamps_q = t.q }; workspace = words }

-- the same for outcomes
run_more : (job : Job) (j k : ℕ) (l : List ℤ) → let o = run_done job j l in let p = run_done (next_job job j l) k (words_after job.turn j l) in
    record { reply = together o.reply p.reply; workspace = p.workspace } ≡ run_done job (j + k) l
unfolding run_done next_job added outcome
run_more job j k l =
    rw (add_assoc job.turn j k, add_assoc job.made (turns_made job.turn j l) (turns_made (job.turn + j) k (words_after job.turn j l)))
    (λ i. outcome job (j + k) (words_more job.turn j k l i) (saturations_more job.turn j k l i) (turns_made_more job.turn j k l i))

-- where the tests are passed
accepted : (job : Job) (a b : ℕ) (l : List ℤ) → run_refusal_of job l ≡ 0 → then_run (run_done job (min a (120 - job.turn)) l) b ≡ run_done job (min (a + b) (120 - job.turn)) l
unfolding run_done run_of run_by next_job
accepted job a b l h =
    let s = run_accepted job l h in
    let t = s.possible.turn in
    let j : ℕ = min a (120 - job.turn) in
    let k : ℕ = min b (120 - (job.turn + j)) in
    let next : Job = next_job job j l in
    let room : 512 ≤ length (words_after job.turn j l) = omega (arith, words-length job.turn j l (omega arith) s.room, s.room) in
    let possible : PossibleJob next = possible_next job j l (omega arith) s.possible in
    let pass : run_refusal_of next (words_after job.turn j l) ≡ 0 = run_passes next (words_after job.turn j l) (record { room = room; possible = possible }) in
    let e : min (a + b) (120 - job.turn) ≡ j + k = omega arith in
    rw (pass, e) (run_more job j k l)

-- where the first Run is refused, so is the second
by_number : (number : ℕ) (job : Job) (a b : ℕ) (l : List ℤ) → run_refusal_of job l ≡ number → then_run (run_by number job a l) b ≡ run_by number job (a + b) l
unfolding run_by run_of
by_number zero job a b l h = accepted job a b l h
by_number (suc m) job a b l h = rw h

pub spread : Spread
unfolding run_of
spread job a b l = by_number (run_refusal_of job l) job a b l refl

-- ---- the budgets of a list

pub spread_list : SpreadList
unfolding then_runs sum_of
spread_list job a [] l = ap (λ (n : ℕ). run_of job n l) (omega arith)
spread_list job a (b ∷ bs) l =
    rw (spread job a b l) (spread_list job (a + b) bs l ∙ ap (λ (n : ℕ). run_of job n l) (add_assoc a b (sum_of bs)))
