-- An exclusive or with -1 turns all digits over. Assumes nothing.
use Rattle.std.proofs.Common.{◌∙◌}
use mathlib.Core.Path.{subst⁻¹}
use lib.IntN.{ℤ, pos}
use lib.Signed.{lt_z}
use mir.Syntax.{w32}
use mir.Val.{SFits}
use mir.Facts.{to_z-of_z}
use Rattle.integers.specs.Within.{Within}
use Rattle.cordic.specs.Norm.{most}
use Rattle.narrow.proofs.Mask.{fits, masked, masked_is, oriented_within}
use Rattle.narrow.proofs.oriented_by.Goals as goal

masked-fits : (s w : ℤ) → SFits w32 s → Within w most → SFits w32 (masked s w)
masked-fits s w f h = subst⁻¹ (SFits w32) (masked_is s w f h) (fits (oriented_within (lt_z s (pos 0)) h))

pub overflow_sub-result : goal.overflow_sub-result
overflow_sub-result c = masked-fits c.args.sign c.args.w c.ranges.sign c.requires

pub returns : goal.returns
returns c =
    let a = c.args in
    to_z-of_z (masked-fits a.sign a.w c.ranges.sign c.requires) ∙ masked_is a.sign a.w c.ranges.sign c.requires
