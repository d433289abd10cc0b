-- Targets as they are handed over, and the weights of a reply by place. Assumes nothing.
use Rattle.std.specs.Prelude.{ℕ, ◌-◌, cond, List, ltb, Float, get_or}
use Rattle.std.specs.Float.{nan}
use Rattle.std.specs.Int.{w16}
use Rattle.std.proofs.Common.{SFits}
use Rattle.covariance.specs.declared.Sample.{Sample}
use Rattle.covariance.specs.Sums.{sample_of}
use Rattle.weights.specs.declared.Weight.{Weight}
use Rattle.weights.specs.Weights.{weights_of}

-- what an array of eight targets always is: 16 bits a part
abbrev pub Targets16 : List Sample → Type 0
Targets16 targets = (k : ℕ) → SFits w16 (sample_of targets k).re × SFits w16 (sample_of targets k).im

-- weight k that the call answers
abbrev pub weight_at_of : List ℕ → List Sample → ℕ → Weight
weight_at_of rec targets k = get_or (weights_of rec targets).weights k (record { re = nan; im = nan })

-- component j of what it answers, "real parts first, then imaginary"
abbrev pub component_at : List ℕ → List Sample → ℕ → Float
component_at rec targets j = cond (ltb j 8) (weight_at_of rec targets j).re (weight_at_of rec targets (j - 8)).im
