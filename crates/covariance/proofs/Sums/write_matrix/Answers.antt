-- The first test that fails refuses, and else the record stands over the first bytes.
use Rattle.std.proofs.Common.{◌≡◌, refl, sym, ℕ, zero, suc, ◌<◌, ◌≤◌, List, length, arith}
use Rattle.std.proofs.lemmas.Result.{err_from_is_err_and}
use borrow.Author.Tests.{lt-ltb, le-ltb, eq-eqb, ne_eqb}
use Rattle.lists.specs.Lists.{filled}
use Rattle.refusals.proofs.Outcomes.{numbers_nonzero}
use Rattle.matrix_record.specs.MatrixRecord.{matrix_byte, matrix_record_of}
use Rattle.covariance.specs.declared.Sums.{Sums}
use Rattle.covariance.specs.Sums.{sums_test}
use Rattle.covariance.specs.WriteMatrix.{element_part, write_refusal_of, write_by, write_of}
use Rattle.covariance.proofs.Accepted.{sums-accepted}
use Rattle.covariance.proofs.Sums.write_matrix.Goals as goal

module _ (s : Sums) (buffer : List ℕ) where
  by_number : (n : ℕ) → (n ≡ 0 → ⊥) → record { number = n; buffer = buffer } ≡ write_by n s buffer
  unfolding write_by
  by_number zero f = absurd (f refl)
  by_number (suc n) f = refl

  beyond : (n : ℕ) → n ≡ sums_test s.count s.words → (n ≡ 0 → ⊥) → record { number = n; buffer = buffer } ≡ write_of s buffer
  unfolding write_of write_refusal_of
  beyond zero e f = absurd (f refl)
  beyond (suc n) e f = rw (← e) (by_number (suc n) f)

  module _ (inside : sums_test s.count s.words ≡ 0) where
    none : s.count ≡ 0 → record { number = 9; buffer = buffer } ≡ write_of s buffer
    unfolding write_of write_refusal_of write_by
    none e = simp (inside, eq-eqb _ _ e)

    module _ (some : s.count ≡ 0 → ⊥) where
      short : length buffer < 257 → record { number = 7; buffer = buffer } ≡ write_of s buffer
      unfolding write_of write_refusal_of write_by
      short l = simp (inside, ne_eqb _ _ some, lt-ltb _ _ l)

      written : 257 ≤ length buffer → record { number = 0; buffer = filled 257 (matrix_byte (element_part s.count s.words)) buffer } ≡ write_of s buffer
      unfolding write_of write_refusal_of write_by
      written l = simp (inside, ne_eqb _ _ some, le-ltb _ _ l)

pub returns-in_err-check_range : goal.returns-in_err-check_range
returns-in_err-check_range c =
    let p = err_from_is_err_and c.from_residual.result c.from_residual.ensures.1 in
    let n = c.in_err-check_range.ensures in
    rw (p.1, p.2) (beyond c.args.self.now c.args.buffer.now _ n (numbers_nonzero _))

pub returns-then-self-eq0 : goal.returns-then-self-eq0
returns-then-self-eq0 c = none c.args.self.now c.args.buffer.now (sym c.in_ok-check_range.ensures) c.if-self-eq0.true

pub returns-in_default : goal.returns-in_default
returns-in_default c = short c.args.self.now c.args.buffer.now (sym c.in_ok-check_range.ensures) c.if-self-eq0.false c.in_default.ensures.cases

pub write_record-requires : goal.write_record-requires
write_record-requires c =
    let a = sums-accepted c.args.self.now.count c.args.self.now.words (sym c.in_ok-check_range.ensures) in
    let n = c.if-self-eq0.false in
    (omega arith, a.inside)

pub returns : goal.returns
unfolding filled matrix_record_of
returns c =
    rw c.write_record.ensures (written c.args.self.now c.args.buffer.now (sym c.in_ok-check_range.ensures) c.if-self-eq0.false (c.in-Some.ensures.variant.0 refl))
