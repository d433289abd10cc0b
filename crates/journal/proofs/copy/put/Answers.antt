-- One more byte is copied.
use Rattle.std.proofs.Common.{◌≡◌, ◌+◌, refl, arith}
use Rattle.journal.proofs.Copying.{copy-none, copy_more, copy_all}
use Rattle.journal.proofs.copy.put.Goals as goal

pub loop-i-init : goal.loop-i-init
loop-i-init c = copy-none _ 0 _ _ (omega (arith, c.requires)) (omega arith)

pub loop-i-preserved : goal.loop-i-preserved
loop-i-preserved c =
    let e : 0 + c.loop-i.i ≡ c.loop-i.i = omega arith in
    rw e at (copy_more c.loop-i.invariant c.loop-i-test.true refl)

pub returns : goal.returns
returns c = copy_all c.loop-i.invariant c.requires c.loop-i-test.false
