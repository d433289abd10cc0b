-- The count is tested, and then the sums.
use Rattle.std.proofs.Common.{arith}
use borrow.Author.Tests.{le-ltb}
use Rattle.covariance.specs.Sums.{sums_test}
use Rattle.covariance.proofs.Ranges.{decided}
use Rattle.covariance.proofs.Sums.check_range.Goals as goal

pub returns-then-not-in_range : goal.returns-then-not-in_range
unfolding sums_test
returns-then-not-in_range c =
    let e = decided _ c.args.self.now.count c.args.self.now.words (omega arith) c.if-not-in_range.ensures in
    rw (le-ltb 4096 c.args.self.now.count c.if-self-gt-SNAPSHOTS.false, ← e)

pub returns : goal.returns
unfolding sums_test
returns c =
    let e = decided _ c.args.self.now.count c.args.self.now.words (omega arith) c.if-not-in_range.ensures in
    rw (le-ltb 4096 c.args.self.now.count c.if-self-gt-SNAPSHOTS.false, ← e)
