-- What the machine compares is u² + v² of column k, so that the test of the column is known on either way. Assumes nothing.
use Rattle.std.proofs.Common.{rules, arith, ◌≡◌, ℕ, ◌+◌, pos, get_or, ◌∙◌}
use mathlib.Core.Path.{ap₂}
use lib.IntN.{ℤ}
use borrow.Author.Tests.{le-leb, lt-leb}
use mir.Syntax.{w32}
use mir.Val.{SFits}
use mir.Facts.{to_z-of_z}
use Rattle.integers.specs.Square.{square}
use Rattle.lists.proofs.Passing.{pass_more, pass_done, pass_fails}
use Rattle.narrow.specs.Narrow.{norms_bounded_of}
use Rattle.narrow.proofs.Mask.{read}
use Rattle.narrow.proofs.Norms.{test_is, test_none}
use Rattle.narrow.proofs.norms_bounded.Goals as goal

pub loop-k-init : goal.loop-k-init
loop-k-init c = test_none c.args.base c.args.column c.args.part.now c.requires.0

-- the sum that the machine forms of the squares of two words
norm-is : {x y : ℤ} (p q : ℕ) → SFits w32 x → SFits w32 y → p ≡ square (read x) → q ≡ square (read y) → p + q ≡ square x + square y
norm-is p q f g d e = ap₂ (λ (a b : ℕ). a + b) (rw (to_z-of_z f) at d) (rw (to_z-of_z g) at e)

pub returns-then-norm-gt-NORM_BOUND : goal.returns-then-norm-gt-NORM_BOUND
unfolding norms_bounded_of
returns-then-norm-gt-NORM_BOUND c =
    let a = c.args in
    let k = c.loop-k.k in
    let x : SFits w32 (get_or a.part.now k (pos 0)) = search rules in
    let y : SFits w32 (get_or a.part.now (a.base + k) (pos 0)) = search rules in
    let e = norm-is _ _ x y c.square-p.ensures.0 c.square-q.ensures.0 in
    pass_fails c.loop-k.invariant (omega arith) (test_is a.base a.column a.part.now k (omega arith) ∙ lt-leb _ _ (rw e at c.if-norm-gt-NORM_BOUND.true))

pub loop-k-preserved : goal.loop-k-preserved
loop-k-preserved c =
    let a = c.args in
    let k = c.loop-k.k in
    let x : SFits w32 (get_or a.part.now k (pos 0)) = search rules in
    let y : SFits w32 (get_or a.part.now (a.base + k) (pos 0)) = search rules in
    let e = norm-is _ _ x y c.square-p.ensures.0 c.square-q.ensures.0 in
    pass_more c.loop-k.invariant (omega arith) (test_is a.base a.column a.part.now k (omega arith) ∙ le-leb _ _ (rw e at c.if-norm-gt-NORM_BOUND.false))

pub returns : goal.returns
unfolding norms_bounded_of
returns c = pass_done c.loop-k.invariant (omega arith)
