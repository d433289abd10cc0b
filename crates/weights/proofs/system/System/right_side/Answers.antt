-- A sum of at most 2^50 is a float exactly, and so is 131,072.
use Rattle.std.proofs.Common.{ap, ◌∙◌, ℤ, pos}
use lib.Dec.{lit<}
use lib.Ieee.{binary64, div, of_int, of_bits}
use Rattle.integers.proofs.Within.{within}
use Rattle.covariance.proofs.Machine.{back}
use Rattle.weights.specs.Solution.{right_side_of}
use Rattle.weights.proofs.system.System.right_side.Goals as goal

pub returns : goal.returns
unfolding right_side_of of_int of_bits
returns c =
    let s = c.right_sum in
    let e = back (within {x = s.result} s.ensures.small) (lit< tt) in
    ap (λ (z : ℤ). div binary64 (of_int binary64 z) (of_int binary64 (pos 131072))) (e ∙ s.ensures.number)
