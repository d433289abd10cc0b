-- `factor_and_weigh` meets its contract: the weights are of what Whole left in the buffer. Assumes nothing.
use mathlib.Core.Path.{◌≡◌}
use mathlib.Core.List.{List}
use Prim.Native.Nat.{ℕ}
use lib.IntN.{ℤ}
use Rattle.engine.specs.declared.whole.WholeReply.{WholeReply}
use Rattle.engine.specs.Whole.{whole_of}
use Rattle.covariance.specs.declared.Sample.{Sample}
use Rattle.weights.specs.declared.WeightsReply.{WeightsReply}
use Rattle.weights.specs.Weights.{weights_of}
use Rattle.caller.specs.Caller.{weighed_of}
use Rattle.caller.proofs.factor_and_weigh.Goals as goal

weighed-is : (rec : List ℕ) (targets : List Sample) (l words : List ℤ) (buffer out : List ℕ) (whole : WholeReply) (weights : WeightsReply)
    → record { reply = whole; workspace = words; buffer = out } ≡ whole_of rec l buffer → weights ≡ weights_of out targets
    → record { reply = record { whole = whole; weights = weights }; workspace = words; buffer = out } ≡ weighed_of rec targets l buffer
unfolding weighed_of
weighed-is rec targets l words buffer out whole weights d e = rw (← d, ← e)

pub returns : goal.returns
returns c =
    weighed-is _ _ _ _ _ _ _ _ c.hubqr_whole-factored.ensures c.hubqr_weights-weights.ensures
