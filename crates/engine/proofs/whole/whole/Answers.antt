-- A refusal changes nothing; number 0 says that the sizes are right.
use Rattle.std.proofs.Common.{◌≡◌, Err, sym, rules, arith}
use lib.Dec.{lit≤}
use Rattle.engine.specs.Whole.{whole_done, whole_by, whole_of}
use Rattle.engine.proofs.Accepted.{whole-accepted}
use Rattle.engine.proofs.Refused.{refused_by}
use Rattle.engine.proofs.whole.whole.Goals as goal

pub returns-in_err-checked : goal.returns-in_err-checked
unfolding whole_of whole_by
returns-in_err-checked c =
    let e : c.from_residual.result ≡ Err c.in_err-checked.field-0.0 = search rules in
    rw (e, ← c.in_err-checked.ensures.number, ← refused_by c.in_err-checked.field-0.0)

pub fill-requires : goal.fill-requires
fill-requires c = (whole-accepted _ _ _ (sym c.in_ok-checked.ensures.number)).load.room

pub take_turns-tally-requires : goal.take_turns-tally-requires
take_turns-tally-requires c =
    let s = whole-accepted _ _ _ (sym c.in_ok-checked.ensures.number) in
    (lit≤ tt, omega (arith, c.fill.auto.workspace, s.load.room))

pub write-requires : goal.write-requires
write-requires c =
    let s = whole-accepted _ _ _ (sym c.in_ok-checked.ensures.number) in
    (omega (arith, c.take_turns-tally.auto.workspace, c.fill.auto.workspace, s.load.room), s.space)

pub returns : goal.returns
unfolding whole_of whole_by whole_done
returns c =
    rw (← c.in_ok-checked.ensures.number, c.write.ensures, c.take_turns-tally.ensures.words, c.take_turns-tally.ensures.saturations, c.heard_byte-heard.ensures, c.fill.ensures, c.in_ok-checked.ensures.same)
