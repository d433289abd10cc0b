-- The sum of the first j products, each at most 2^46.
use Rattle.std.proofs.Common.{◌≡◌, ℕ, ◌*◌, ◌^◌, ◌≤◌, nat_abs, ◌*ℤ◌}
use Rattle.integers.specs.Sum.{sum}
use Rattle.result_record.specs.ResultRecord.{record_q}
use Rattle.weights.specs.Solution.{part_at}
use Rattle.weights.proofs.system.System.right_sum.Given as goal

abbrev pub invariant-loop-j : goal.invariant-loop-j
invariant-loop-j l = record {
  is : l.sum ≡ sum l.j (λ (k : ℕ). record_q l.self.bytes.now k l.i *ℤ part_at l.self.parts k);
  small : nat_abs l.sum ≤ l.j * 2 ^ 46;
}
