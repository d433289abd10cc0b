-- An entry is at most 2^15 in magnitude, so 2^13 times it fits. Assumes nothing.
use Rattle.std.proofs.Common.{◌≤◌, ◌∙◌, ap, rules, arith, w32}
use borrow.Author.Tests.{lt-ltb, le-ltb, eq-eqb, ne_eqb}
use lib.IntN.{ℤ, pos, ◌*ℤ◌}
use lib.Signed.{mag}
use mir.Val.{SFits}
use mir.Facts.{to_z-of_z}
use Rattle.integers.proofs.Magnitude.{mag-mul}
use Rattle.workspace.specs.Loading.{loaded_at}
use Rattle.workspace.proofs.filling.ArrayU8matrixrecordBYTESFilling.word.Goals as goal

entry_fits : (z : ℤ) → mag z ≤ 32768 → SFits w32 (z *ℤ pos 8192)
entry_fits z h = record { sfits = omega (arith, mag-mul z 8192) }

pub returns-then-j-lt16 : goal.returns-then-j-lt16
unfolding loaded_at
returns-then-j-lt16 c =
    let f : SFits w32 c.real_entry.result = search rules in
    simp (lt-ltb _ _ c.if-j-lt16.true)
    (rw (to_z-of_z f)
    (to_z-of_z (entry_fits c.real_entry.result c.real_entry.ensures.small) ∙ ap (λ (z : ℤ). z *ℤ pos 8192) c.real_entry.ensures.entry))

pub returns-then-j-i : goal.returns-then-j-i
unfolding loaded_at
returns-then-j-i c = simp (le-ltb _ _ c.if-j-lt16.false, eq-eqb _ _ c.if-j-i.true)

pub returns-else-j-i : goal.returns-else-j-i
unfolding loaded_at
returns-else-j-i c = simp (le-ltb _ _ c.if-j-lt16.false, ne_eqb _ _ c.if-j-i.false)
