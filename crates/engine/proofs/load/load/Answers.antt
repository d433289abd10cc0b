-- A refusal changes nothing; number 0 says that the workspace has room.
use Rattle.std.proofs.Common.{◌≡◌, Err, sym, rules}
use Rattle.engine.specs.Load.{load_by, load_of}
use Rattle.engine.proofs.Accepted.{load-accepted}
use Rattle.engine.proofs.Refused.{refused_by}
use Rattle.engine.proofs.load.load.Goals as goal

pub returns-in_err-checked : goal.returns-in_err-checked
unfolding load_of load_by
returns-in_err-checked c =
    let e : c.from_residual.result ≡ Err c.in_err-checked.field-0.0 = search rules in
    rw (e, ← c.in_err-checked.ensures.number, ← refused_by c.in_err-checked.field-0.0)

pub fill-requires : goal.fill-requires
fill-requires c = (load-accepted _ _ (sym c.in_ok-checked.ensures.number)).room

pub returns : goal.returns
unfolding load_of load_by
returns c = rw (← c.in_ok-checked.ensures.number, c.heard_byte-heard.ensures, c.fill.ensures, c.in_ok-checked.ensures.same)
