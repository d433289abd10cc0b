-- `fetch` meets its contract: a call that is not admitted is refused as the tests say, then the engine's Fetch decides, and then whether one is brought in.
use Rattle.std.proofs.Common.{◌≡◌, ℕ, Bool, true, false, List, Err, sym, ap, ◌∙◌, rules}
use lib.IntN.{ℤ}
use Rattle.refusals.specs.Refusals.{first}
use Rattle.refusals.proofs.Outcomes.{passed_first}
use Rattle.engine.specs.Fetch.{fetch_refusal_of, fetch_by}
use Rattle.engine.proofs.Accepted.{fetch_accepted}
use Rattle.desk.specs.declared.Desk.{Desk}
use Rattle.desk.specs.Desk.{Loaded, job_at_of, sector_test}
use Rattle.desk.specs.Roles.{may_fetch_of, role_test}
use Rattle.desk.specs.Fetch.{DeskFetchOutcome, brings, brought_in, desk_fetch_refusal, desk_fetch_by, desk_fetch_of}
use Rattle.desk.proofs.Fetched.{fetched, refused_unwritten}
use Rattle.desk.proofs.Refused.{fetch_refused}
use Rattle.desk.proofs.Operator.{operator_is}
use Rattle.desk.proofs.Desk.fetch.Goals as goal
use Rattle.desk.proofs.Desk.fetch.Goals.{else-eq-via-then-eq+else-waits, else-eq-via-else-eq}

-- past the tests of the role and the sector the engine's decide
tests_are : (role : ℕ) (desk : Desk) (sector : ℕ) (area : List ℤ) (buffer : List ℕ) → 0 ≡ role_test (may_fetch_of role) → 0 ≡ sector_test sector
    → desk_fetch_refusal role desk sector area buffer ≡ fetch_refusal_of (job_at_of desk sector) area buffer
unfolding desk_fetch_refusal
tests_are role desk sector area buffer r s = let rest = fetch_refusal_of (job_at_of desk sector) area buffer in
    ap (λ (n : ℕ). first n rest) (passed_first _ _ r ∙ sym s)

done : (n : ℕ) (brought : Bool) (desk d : Desk) (sector : ℕ) (area l : List ℤ) (buffer after : List ℕ) → 0 ≡ n → after ≡ (fetch_by 0 area buffer).buffer
    → ◌≡◌ {A = Loaded} (record { desk = d; area = l }) (brought_in brought desk sector area)
    → ◌≡◌ {A = DeskFetchOutcome} (record { reply = record { desk = d; number = 0 }; area = l; buffer = after }) (desk_fetch_by n brought desk sector area buffer)
unfolding desk_fetch_by
done n brought desk d sector area l buffer after z w b = rw (← z, w, ap (λ (o : Loaded). o.desk) b, ap (λ (o : Loaded). o.area) b)

pub returns-in_err-fetch : goal.returns-in_err-fetch
unfolding desk_fetch_of
returns-in_err-fetch c =
    let a = c.args in
    let e : c.from_residual-in_err-fetch.result ≡ Err c.in_err-fetch.field-0.0 = search rules in
    let f = fetched _ _ _ _ _ (rw (c.job.ensures, c.in_ok-sector.ensures.1) at c.in_err-fetch.ensures) in
    let t = tests_are a.role a.self.now a.sector a.area.now a.buffer.now c.in_ok-role.ensures.number c.in_ok-sector.ensures.0 in
    rw (e, f.written, refused_unwritten c.in_err-fetch.field-0.0 a.area.now a.buffer.now)
    (fetch_refused c.in_err-fetch.field-0.0 _ _ _ _ _ _ (f.tests ∙ sym t))

pub bring_in-requires : goal.bring_in-requires
bring_in-requires c = (fetch_accepted _ _ _ (sym (fetched _ _ _ _ _ c.in_ok-fetch.ensures).tests)).room

pub returns-then-waits : goal.returns-then-waits
unfolding desk_fetch_of
returns-then-waits c =
    let a = c.args in
    let s = c.in_ok-sector.ensures.1 in
    let f = fetched _ _ _ _ _ (rw (c.job.ensures, s) at c.in_ok-fetch.ensures) in
    let t = tests_are a.role a.self.now a.sector a.area.now a.buffer.now c.in_ok-role.ensures.number c.in_ok-sector.ensures.0 in
    let o = operator_is a.role c.in_ok-role.role c.in_ok-role.ensures.same in
    let b : brings a.role a.self.now a.sector ≡ true = rw (← o, ← c.eq.ensures, c.if-eq.true, ← s, ← c.waits.ensures, c.if-waits.true) in
    done _ _ _ _ _ _ _ _ _ (f.tests ∙ sym t) f.written (rw b (rw s at c.bring_in.ensures))

pub returns-else-eq : goal.returns-else-eq
unfolding desk_fetch_of
returns-else-eq c =
    let a = c.args in
    let s = c.in_ok-sector.ensures.1 in
    let f = fetched _ _ _ _ _ (rw (c.job.ensures, s) at c.in_ok-fetch.ensures) in
    let t = tests_are a.role a.self.now a.sector a.area.now a.buffer.now c.in_ok-role.ensures.number c.in_ok-sector.ensures.0 in
    let o = operator_is a.role c.in_ok-role.role c.in_ok-role.ensures.same in
    let b : brings a.role a.self.now a.sector ≡ false =
    elim c.else-eq.branch [
      | else-eq-via-then-eq+else-waits w ↦ rw (← o, ← c.eq.ensures, w.if-eq.true, ← s, ← w.waits.ensures, w.if-waits.false)
      | else-eq-via-else-eq w ↦ rw (← o, ← c.eq.ensures, w.if-eq.false)
    ] in
    done _ _ _ _ _ _ _ _ _ (f.tests ∙ sym t) f.written (rw b)
