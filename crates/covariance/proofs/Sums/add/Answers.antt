-- A refusal leaves the sums as they were, and else each element's two sums have the snapshot added.
use Rattle.std.proofs.Common.{◌≡◌, ◌≢◌, ◌∙◌, refl, sym, ap, ℕ, ◌+◌, ◌*◌, arith, set, get_or-set_other, pos, ◌+ℤ◌}
use Rattle.std.proofs.lemmas.Result.{err_from_is_err_and}
use Rattle.integers.proofs.Within.{within}
use Rattle.lists.proofs.Filling.{fill_none, fill-two, fill_done}
use Rattle.lists.proofs.Tabulate.{filled_all}
use Rattle.refusals.proofs.Outcomes.{numbers_nonzero}
use Rattle.covariance.specs.Sums.{sum_at, added_word}
use Rattle.covariance.proofs.Accepted.{add-accepted}
use Rattle.covariance.proofs.Adding.{refused, accepted, plus_fit, plus_are, not_yet}
use Rattle.covariance.proofs.Machine.{read}
use Rattle.covariance.proofs.Sums.add.Goals as goal

pub returns-in_err-check_add : goal.returns-in_err-check_add
returns-in_err-check_add c =
    let p = err_from_is_err_and c.from_residual.result c.from_residual.ensures.1 in
    let n = c.in_err-check_add.ensures in
    rw (p.1, p.2, n) (refused c.args.snapshot c.args.self.now (λ e. numbers_nonzero _ (n ∙ e)))

pub loop-e-init : goal.loop-e-init
loop-e-init c = record { counted = refl; filled = fill_none 128 _ _ }

pub overflow_add-self : goal.overflow_add-self
overflow_add-self c =
    let a = add-accepted c.args.self.now (sym c.in_ok-check_add.ensures) in
    rw (not_yet c.loop-e.invariant.filled (2 * c.loop-e.e) (pos 0) (omega arith))
    (plus_fit c.args.snapshot c.args.self.now a (2 * c.loop-e.e) (omega arith) (within {x = c.times_conjugate-re.result.0} c.times_conjugate-re.ensures.small.0))

pub overflow_add-self-in-loop-e-2 : goal.overflow_add-self-in-loop-e-2
overflow_add-self-in-loop-e-2 c =
    let a = add-accepted c.args.self.now (sym c.in_ok-check_add.ensures) in
    let other : 2 * c.loop-e.e + 1 ≢ 2 * c.loop-e.e = omega arith in
    rw (get_or-set_other, not_yet c.loop-e.invariant.filled (2 * c.loop-e.e + 1) (pos 0) (omega arith))
    (plus_fit c.args.snapshot c.args.self.now a (2 * c.loop-e.e + 1) (omega arith) (within {x = c.times_conjugate-re.result.1} c.times_conjugate-re.ensures.small.1))

pub loop-e-preserved : goal.loop-e-preserved
loop-e-preserved c =
    let e = c.loop-e.e in
    let s = c.args.self.now in
    let i = c.loop-e.invariant in
    let product = c.times_conjugate-re in
    let a = add-accepted s (sym c.in_ok-check_add.ensures) in
    let other : 2 * e + 1 ≢ 2 * e = omega arith in
    let one : 2 * e + 0 ≡ 2 * e = omega arith in
    let two : 2 * e + 2 ≡ 2 * (e + 1) = omega arith in
    let re = rw one at (plus_are c.args.snapshot s a e 0 (omega arith) (omega arith) (within {x = product.result.0} product.ensures.small.0) product.ensures.real) in
    let im = plus_are c.args.snapshot s a e 1 (omega arith) (omega arith) (within {x = product.result.1} product.ensures.small.1) product.ensures.imaginary in
    let words = c.loop-e.self.words in
    let re_is : read (read (sum_at words (2 * e)) +ℤ read product.result.0) ≡ added_word c.args.snapshot s.words (2 * e) = rw (not_yet i.filled (2 * e) (pos 0) (omega arith)) re in
    let im_is : read (read (sum_at (set words (2 * e) (read (read (sum_at words (2 * e)) +ℤ read product.result.0))) (2 * e + 1)) +ℤ read product.result.1) ≡ added_word c.args.snapshot s.words (2 * e + 1) = rw (get_or-set_other, not_yet i.filled (2 * e + 1) (pos 0) (omega arith)) im in
    record {
      counted = i.counted;
      filled = rw two at (fill-two i.filled (omega arith) (omega arith) re_is im_is);
    }

pub overflow_add-self-2 : goal.overflow_add-self-2
overflow_add-self-2 c =
    let a = add-accepted c.args.self.now (sym c.in_ok-check_add.ensures) in
    omega (arith, a.room, c.loop-e.invariant.counted)

pub returns : goal.returns
returns c =
    let i = c.loop-e.invariant in
    accepted c.args.snapshot c.args.self.now _ (sym c.in_ok-check_add.ensures) (ap (λ (n : ℕ). n + 1) i.counted)
    (fill_done i.filled (omega arith) ∙ filled_all 128 _ _ (omega arith))
