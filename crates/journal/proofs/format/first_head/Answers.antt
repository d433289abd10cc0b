-- The bytes before the body name the kind and the day.
use Rattle.std.proofs.Common.{◌≡◌, arith, rules, get_or}
use Rattle.journal.specs.Kind.{kind_number}
use Rattle.journal.proofs.Heads.{heads_first}
use Rattle.journal.proofs.format.first_head.Goals as goal

pub returns : goal.returns
returns c =
    let k : get_or c.args.bytes.now 0 0 ≡ kind_number c.in_ok-kind.kind = search rules in
    heads_first _ _ _ k c.unsigned32-day.ensures (omega (arith, c.body_length.ensures.length, c.if-body-body_length.false))
