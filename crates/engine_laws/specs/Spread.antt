-- Demand 2: the turns may be made in one call or spread over many. A Run with budget a and then one with budget b, handed the job that the first
-- answered, leave the same words, answer the same job, with as many turns truly made (document 02, U5), and in total the same count and clamps of each side
-- as one Run with a + b. Where the first is refused, so are the others, by the same number. The same for the budgets of any list. Job and budgets are any
-- whole numbers, and the words any. Assumes nothing.
use Rattle.std.specs.Prelude.{◌≡◌, List, [], ◌∷◌, ℕ, ◌+◌, ℤ}
use Rattle.lists.specs.Lists.{sum_of}
use Rattle.engine.specs.declared.job.Job.{Job}
use Rattle.engine.specs.declared.run.RunReply.{RunReply}
use Rattle.engine.specs.Run.{RunOutcome, run_of}

-- the reply of two Runs in a row, with what they counted added up
abbrev pub together : RunReply → RunReply → RunReply
together r s =
    record {
      number = s.number;
      job = s.job;
      count = r.count + s.count;
      clamps_r = r.clamps_r + s.clamps_r;
      clamps_q = r.clamps_q + s.clamps_q;
    }

-- after an outcome a Run with budget b
abbrev pub then_run : RunOutcome → ℕ → RunOutcome
then_run o b =
    let p = run_of o.reply.job b o.workspace in
    record { reply = together o.reply p.reply; workspace = p.workspace }

abbrev pub Spread : Type 0
Spread = (job : Job) (a b : ℕ) (workspace : List ℤ) → then_run (run_of job a workspace) b ≡ run_of job (a + b) workspace

-- after an outcome a Run with each budget of a list, one after the other
unfoldable pub then_runs : RunOutcome → List ℕ → RunOutcome
then_runs o [] = o
then_runs o (b ∷ bs) = then_runs (then_run o b) bs

-- with a of 0 it is the list alone, since a Run with budget 0 makes no turn
abbrev pub SpreadList : Type 0
SpreadList = (job : Job) (a : ℕ) (budgets : List ℕ) (workspace : List ℤ)
    → then_runs (run_of job a workspace) budgets ≡ run_of job (a + sum_of budgets) workspace
