-- A refusal changes nothing; number 0 says that the sizes are right.
use Rattle.std.proofs.Common.{◌≡◌, Err, sym, rules}
use Rattle.engine.specs.Fetch.{fetch_by, fetch_of}
use Rattle.engine.proofs.Accepted.{fetch_accepted}
use Rattle.engine.proofs.Refused.{refused_by}
use Rattle.engine.proofs.fetch.fetch.Goals as goal

pub returns-in_err-check_fetch : goal.returns-in_err-check_fetch
unfolding fetch_of fetch_by
returns-in_err-check_fetch c =
    let e : c.from_residual.result ≡ Err c.in_err-check_fetch.field-0.0 = search rules in
    rw (e, ← c.in_err-check_fetch.ensures, ← refused_by c.in_err-check_fetch.field-0.0)

pub write-requires : goal.write-requires
write-requires c = let s = fetch_accepted _ _ _ (sym c.in_ok-check_fetch.ensures) in (s.room, s.space)

pub returns : goal.returns
unfolding fetch_of fetch_by
returns c = rw (← c.in_ok-check_fetch.ensures, c.write.ensures)
