-- `total` meets its contract: eight shares of 16 bits cannot wrap the sum.
use Rattle.std.proofs.Common.{◌≡◌, ◌∙◌, arith, rules}
use Rattle.std.specs.Prelude.{sum}
use Rattle.std.proofs.iter.runs.Sources.{sums}
use Rattle.desk.proofs.Totals.{total_is}
use Rattle.desk.proofs.shares.total.Goals as goal

pub sum-requires-clause-fits : goal.sum-requires-clause-fits
sum-requires-clause-fits c = search (rules, sums)

pub returns : goal.returns
returns c =
    let e : c.sum.result ≡ sum c.args.shares.now = search rules in
    e ∙ total_is c.args.shares.now (omega arith)
