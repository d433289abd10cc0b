-- `run` meets its contract: past the tests, the engine's Run is accepted, and the sector's count can pay what it takes.
use Rattle.std.proofs.Common.{◌≡◌, ℕ, ◌-◌, min, List, sym, ap, ◌∙◌, arith}
use lib.IntN.{ℤ}
use Rattle.refusals.proofs.Refusals.{first-none}
use Rattle.refusals.proofs.Outcomes.{numbers_nonzero}
use Rattle.engine.specs.declared.job.Job.{Job}
use Rattle.engine.specs.declared.run.RunReply.{RunReply}
use Rattle.engine.specs.Run.{RunOutcome, run_refusal_of, run_done, run_by, run_of}
use Rattle.desk.specs.declared.Desk.{Desk}
use Rattle.desk.specs.Desk.{job_at_of, left_at_of, paid}
use Rattle.desk.specs.Roles.{may_operate_of, admission_test}
use Rattle.desk.specs.Run.{DeskRunOutcome, desk_run_refusal, grant, desk_run_done, desk_run_by, desk_run_of}
use Rattle.desk.proofs.Desk.run.Goals as goal

-- what the engine's Run answers and leaves: it is accepted
ran : (role : ℕ) (desk : Desk) (sector request budget : ℕ) (job : Job) (area after : List ℤ) (r : RunReply) → 0 ≡ desk_run_refusal role desk sector request area → job ≡ job_at_of desk sector
    → ◌≡◌ {A = RunOutcome} (record { reply = r; workspace = after }) (run_of job budget area)
    → ◌≡◌ {A = RunOutcome} (record { reply = r; workspace = after }) (run_done (job_at_of desk sector) (min budget (120 - (job_at_of desk sector).turn)) area)
unfolding desk_run_refusal run_of run_by
ran role desk sector request budget job area after r h e o =
    let a = first-none (admission_test (may_operate_of role) sector) _ (sym h) in
    let b = first-none (run_refusal_of (job_at_of desk sector) area) _ a.1 in
    o ∙ rw (e, b.0)

counted : (job : Job) (count : ℕ) (area after : List ℤ) (r : RunReply) → ◌≡◌ {A = RunOutcome} (record { reply = r; workspace = after }) (run_done job count area) → (r.number ≡ 0) × (r.count ≡ count)
unfolding run_done
counted job count area after r o = (ap (λ (x : RunOutcome). x.reply.number) o, ap (λ (x : RunOutcome). x.reply.count) o)

done : (desk d : Desk) (sector request budget left : ℕ) (area after : List ℤ) (r : RunReply) → (let job = job_at_of desk sector in
    left ≡ left_at_of desk sector → budget ≡ min request left → ◌≡◌ {A = RunOutcome} (record { reply = r; workspace = after }) (run_done job (min budget (120 - job.turn)) area)
    → d ≡ paid desk sector r.job (left - r.count)
    → ◌≡◌ {A = DeskRunOutcome}
    (record { reply = record { desk = d; number = 0; job = r.job; count = r.count; clamps_r = r.clamps_r; clamps_q = r.clamps_q }; area = after })
    (desk_run_done desk sector (grant job (left_at_of desk sector) request) area))
unfolding desk_run_done run_done
done desk d sector request budget left area after r f b o p =
    let count = grant (job_at_of desk sector) (left_at_of desk sector) request in
    let q : ◌≡◌ {A = RunOutcome} (record { reply = r; workspace = after }) (run_done (job_at_of desk sector) count area) = rw (← f, ← b) o in
    rw (p, f, ap (λ (x : RunOutcome). x.reply.job) q, ap (λ (x : RunOutcome). x.reply.count) q, ap (λ (x : RunOutcome). x.reply.clamps_r) q, ap (λ (x : RunOutcome). x.reply.clamps_q) q, ap (λ (x : RunOutcome). x.workspace) q)

pub returns-in_err-ran : goal.returns-in_err-ran
returns-in_err-ran c =
    let o = ran _ _ _ _ _ _ _ _ _ c.in_ok-sector.ensures.number (c.job.ensures ∙ ap (job_at_of c.args.self.now) c.in_ok-sector.ensures.same) c.in_err-ran.ensures in
    absurd (numbers_nonzero c.in_err-ran.field-0.0 (counted _ _ _ _ _ o).0)

pub overflow_cast-ran : goal.overflow_cast-ran
overflow_cast-ran c =
    let o = ran _ _ _ _ _ _ _ _ _ c.in_ok-sector.ensures.number (c.job.ensures ∙ ap (job_at_of c.args.self.now) c.in_ok-sector.ensures.same) c.in_ok-ran.ensures in
    omega (arith, c.min.ensures, (counted _ _ _ _ _ o).1)

pub overflow_sub-left : goal.overflow_sub-left
overflow_sub-left c =
    let o = ran _ _ _ _ _ _ _ _ _ c.in_ok-sector.ensures.number (c.job.ensures ∙ ap (job_at_of c.args.self.now) c.in_ok-sector.ensures.same) c.in_ok-ran.ensures in
    omega (arith, c.min.ensures, (counted _ _ _ _ _ o).1)

pub returns : goal.returns
unfolding desk_run_of desk_run_by
returns c =
    let s = c.in_ok-sector.ensures.same in
    let o = ran _ _ _ _ _ _ _ _ _ c.in_ok-sector.ensures.number (c.job.ensures ∙ ap (job_at_of c.args.self.now) s) c.in_ok-ran.ensures in
    rw (← c.in_ok-sector.ensures.number)
    (done _ _ _ _ _ _ _ _ _ (rw s at c.left-left.ensures) c.min.ensures o (rw s at c.pay.ensures))
