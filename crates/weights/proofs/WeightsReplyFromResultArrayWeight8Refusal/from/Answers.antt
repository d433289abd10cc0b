-- The weights, or the refusal's number and weights of +0.0.
use lib.Ieee.{of_bits}
use Rattle.lists.specs.Lists.{tabulate}
use Rattle.weights.specs.Weights.{weights_reply}
use Rattle.weights.proofs.WeightsReplyFromResultArrayWeight8Refusal.from.Goals as goal

pub returns-in-Ok : goal.returns-in-Ok
unfolding weights_reply
returns-in-Ok c = rw c.in-Ok.is

pub returns-in-Err : goal.returns-in-Err
unfolding weights_reply tabulate of_bits
returns-in-Err c = rw (c.in-Err.is, c.number.ensures)
