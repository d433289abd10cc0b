-- A refusal changes nothing; number 0 says that the workspace has room and that the job can be.
use Rattle.std.proofs.Common.{◌≡◌, ◌≤◌, Err, sym, rules, arith}
use Rattle.workspace.proofs.WordsAfter.{turns_made_le}
use Rattle.engine.specs.Run.{next_job, run_done, run_by, run_of}
use Rattle.engine.proofs.Accepted.{run_accepted}
use Rattle.engine.proofs.Refused.{refused_by}
use Rattle.engine.proofs.run.run.Goals as goal

pub returns-in_err-check_run : goal.returns-in_err-check_run
unfolding run_of run_by
returns-in_err-check_run c =
    let e : c.from_residual.result ≡ Err c.in_err-check_run.field-0.0 = search rules in
    rw (e, ← c.in_err-check_run.ensures, ← refused_by c.in_err-check_run.field-0.0)

pub overflow_sub-left : goal.overflow_sub-left
overflow_sub-left c = (run_accepted _ _ (sym c.in_ok-check_run.ensures)).possible.turn

pub take_turns-tally-requires : goal.take_turns-tally-requires
take_turns-tally-requires c = let s = run_accepted _ _ (sym c.in_ok-check_run.ensures) in (omega (arith, s.possible.turn), s.room)

pub overflow_add-result : goal.overflow_add-result
overflow_add-result c =
    let s = run_accepted _ _ (sym c.in_ok-check_run.ensures) in
    let few : c.take_turns-tally.result.made ≤ c.min-count.result = rw c.take_turns-tally.ensures.made (turns_made_le _ _ _) in
    omega (arith, s.possible.turn, s.possible.made)

pub returns : goal.returns
unfolding run_of run_by run_done next_job
returns c =
    let t = c.take_turns-tally.ensures in
    rw (← c.in_ok-check_run.ensures, ← c.from.ensures, ← c.min-count.ensures, t.words, t.saturations, t.made)
