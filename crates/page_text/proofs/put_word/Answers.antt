-- The library's digits stand at the end of the columns, behind blanks, and the sign before them.
use Rattle.std.proofs.Common.{◌-◌, arith, ap, ◌∙◌}
use lib.IntN.{nat_abs}
use mir.Facts.{to_z-of_z}
use Rattle.page_text.proofs.Spelling.{few_columns, spelled_all, spelled_plain, spelled_signed}
use Rattle.page_text.proofs.put_word.Goals as goal

pub write_digits-at-requires : goal.write_digits-at-requires
write_digits-at-requires c =
    let few = few_columns c.from.result (omega (arith, c.from.ensures, c.unsigned_abs.type_inv)) in
    (omega (arith, few), omega arith)

pub overflow_sub-columns : goal.overflow_sub-columns
overflow_sub-columns c =
    let few = few_columns c.from.result (omega (arith, c.from.ensures, c.unsigned_abs.type_inv)) in
    omega (arith, few, c.write_digits-at.ensures.start)

pub returns-then-w-lt0 : goal.returns-then-w-lt0
returns-then-w-lt0 c =
    let s = spelled_all c.from.result c.write_digits-at.result c.copy_from_slice.new.self c.write_digits-at.new.buf
    (omega (arith, c.from.ensures, c.unsigned_abs.type_inv)) c.copy_from_slice.ensures.after (omega arith)
    c.write_digits-at.ensures.start c.write_digits-at.ensures.written c.write_digits-at.ensures.before in
    spelled_signed s c.args.w (c.write_digits-at.result - 1) (omega (arith, s.low)) (rw (to_z-of_z c.ranges.w) at c.if-w-lt0.true)
    (c.from.ensures ∙ c.unsigned_abs.ensures.value ∙ ap nat_abs (to_z-of_z c.ranges.w))

pub returns-else-w-lt0 : goal.returns-else-w-lt0
returns-else-w-lt0 c =
    let s = spelled_all c.from.result c.write_digits-at.result c.copy_from_slice.new.self c.write_digits-at.new.buf
    (omega (arith, c.from.ensures, c.unsigned_abs.type_inv)) c.copy_from_slice.ensures.after (omega arith)
    c.write_digits-at.ensures.start c.write_digits-at.ensures.written c.write_digits-at.ensures.before in
    spelled_plain s c.args.w (rw (to_z-of_z c.ranges.w) at c.if-w-lt0.false)
    (c.from.ensures ∙ c.unsigned_abs.ensures.value ∙ ap nat_abs (to_z-of_z c.ranges.w))
