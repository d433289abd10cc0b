-- The sum of the first k products, each at most 2^62. Assumes nothing.
use Rattle.std.proofs.Common.{◌≡◌, ◌*◌, ◌^◌, ◌≤◌, nat_abs, ◌*ℤ◌}
use Rattle.integers.specs.Sum.{sum}
use Rattle.workspace.specs.Workspace.{word_in}
use Rattle.verify.proofs.sums.column_products.Given as goal

abbrev pub invariant-loop-k : goal.invariant-loop-k
invariant-loop-k l = record { number : l.sum ≡ sum l.k (λ n. word_in l.words n l.a *ℤ word_in l.words n l.b); small : nat_abs l.sum ≤ l.k * 2 ^ 62 }
