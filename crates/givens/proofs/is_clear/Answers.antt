-- Both tests of words are those of the definition. Assumes nothing.
use Rattle.std.proofs.Common.{◌+◌, ◌*◌, ◌∙◌, sym, rules, w32, of_z}
use borrow.Author.Tests.{eq-eqb, ne_eqb}
use lib.IntN.{pos}
use lib.ListN.{get_or}
use mir.Val.{SFits}
use mir.Facts.{to_z-of_z}
use Rattle.integers.proofs.Magnitude.{nonneg_test, zero_bits}
use Rattle.rotation.specs.Turn.{is_clear_of}
use Rattle.givens.proofs.is_clear.Goals as goal

pub returns-then-lower-eq0 : goal.returns-then-lower-eq0
unfolding is_clear_of
returns-then-lower-eq0 c =
    let a = c.args in
    let x = get_or a.part.now a.column (pos 0) in
    let y = get_or a.part.now (a.gap * 32 + a.column) (pos 0) in
    let f : SFits w32 x = search rules in
    let g : SFits w32 y = search rules in
    rw (to_z-of_z f, sym (zero_bits y g.sfits) ∙ eq-eqb _ 0 c.if-lower-eq0.true) (nonneg_test x)

pub returns-else-lower-eq0 : goal.returns-else-lower-eq0
unfolding is_clear_of
returns-else-lower-eq0 c =
    let a = c.args in
    let y = get_or a.part.now (a.gap * 32 + a.column) (pos 0) in
    let g : SFits w32 y = search rules in
    let e = ne_eqb (of_z w32 y) 0 c.if-lower-eq0.false in
    rw (e, sym (zero_bits y g.sfits) ∙ e)
