-- Columns 0 to 15 are R's, the others Q's. Assumes nothing.
use Rattle.std.proofs.Common.{◌≡◌, ◌-◌, ◌%◌, arith, rules, w32}
use borrow.Author.Tests.{lt-ltb, le-ltb}
use mir.Val.{SFits}
use mir.Facts.{to_z-of_z}
use Rattle.workspace.specs.Reading.{read_at}
use Rattle.workspace.proofs.filling.ArrayU8resultrecordBYTESFilling.word.Goals as goal

pub returns-then-j-lt16 : goal.returns-then-j-lt16
unfolding read_at
returns-then-j-lt16 c =
    let f : SFits w32 c.r.result = search rules in
    rw (lt-ltb _ _ c.if-j-lt16.true, to_z-of_z f) c.r.ensures

pub returns-else-j-lt16 : goal.returns-else-j-lt16
unfolding read_at
returns-else-j-lt16 c =
    let f : SFits w32 c.q.result = search rules in
    let e : c.args.k % 32 % 16 ≡ c.args.k % 32 - 16 = omega arith in
    rw (le-ltb _ _ c.if-j-lt16.false, to_z-of_z f) (rw e at c.q.ensures)
