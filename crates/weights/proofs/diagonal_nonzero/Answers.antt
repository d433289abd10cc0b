-- The diagonal words one by one, each tested by its bits.
use Rattle.std.proofs.Common.{◌≡◌, sym, ap, ◌∙◌, eq-eqb, ne_eqb, ℤ, not, ◌<◌, w32, of_z}
use lib.Dec.{eqb}
use lib.Signed.{mag}
use Rattle.integers.specs.Matrix.{is_zero}
use Rattle.integers.proofs.Magnitude.{zero_bits}
use Rattle.lists.proofs.Passing.{pass_none, pass_more, pass_done, pass_fails}
use Rattle.weights.specs.Weights.{diagonal_nonzero_of}
use Rattle.weights.proofs.diagonal_nonzero.Goals as goal

tested : (w z : ℤ) → w ≡ z → mag w < 2147483648 → is_zero z ≡ eqb (of_z w32 w) 0
tested w z e small = ap is_zero (sym e) ∙ sym (zero_bits w small)

pub loop-i-init : goal.loop-i-init
loop-i-init c = pass_none 16 _

pub returns-then-r-eq0 : goal.returns-then-r-eq0
unfolding diagonal_nonzero_of
returns-then-r-eq0 c =
    pass_fails c.loop-i.invariant c.loop-i-test.true (ap not (tested _ _ c.r.ensures c.r.type_inv ∙ eq-eqb _ _ c.if-r-eq0.true))

pub loop-i-preserved : goal.loop-i-preserved
loop-i-preserved c =
    pass_more c.loop-i.invariant c.loop-i-test.true (ap not (tested _ _ c.r.ensures c.r.type_inv ∙ ne_eqb _ _ c.if-r-eq0.false))

pub returns : goal.returns
unfolding diagonal_nonzero_of
returns c = pass_done c.loop-i.invariant c.loop-i-test.false
