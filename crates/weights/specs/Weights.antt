-- Document 02, U4: the weights of a result record and eight targets, and what the call answers, on all inputs. Assumes nothing.
use Rattle.std.specs.Prelude.{ℕ, zero, suc, ◌+◌, Bool, not, List, Float, Result, Ok, Err}
use Rattle.integers.specs.Matrix.{Matrix, is_zero}
use Rattle.lists.specs.Lists.{tabulate, all_below}
use Rattle.refusals.specs.Refusals.{first, fails_unless, zero_diagonal}
use Rattle.refusals.specs.declared.Refusal.{Refusal}
use Rattle.refusals.specs.Outcomes.{number_of}
use Rattle.result_record.specs.ResultRecord.{record_r, record_q, record_refusal_of}
use Rattle.covariance.specs.declared.Sample.{Sample}
use Rattle.weights.specs.declared.Weight.{Weight}
use Rattle.weights.specs.declared.WeightsReply.{WeightsReply}
use Rattle.weights.specs.Solution.{target_part_of, component_of, zero_float, worked_rows}

-- "A weight is a pair of 64-bit floats, real and imaginary": weight k of the components x
abbrev pub weight_of : (ℕ → Float) → ℕ → Weight
weight_of x k = record { re = x k; im = x (8 + k) }

abbrev pub weights_from : (ℕ → Float) → List Weight
weights_from x = tabulate 8 (weight_of x)

-- no word on the diagonal is 0
unfoldable pub diagonal_nonzero_of : Matrix → Bool
diagonal_nonzero_of r = all_below 16 (λ i. not (is_zero (r i i)))

-- "11 a diagonal word is 0, after 1, 2 and 8 on the record"
unfoldable pub weights_refusal_of : List ℕ → ℕ
weights_refusal_of rec = first (record_refusal_of rec) (fails_unless (diagonal_nonzero_of (record_r rec)) zero_diagonal)

-- by that number. The weights of all 16 rows; a refusal answers its number alone, and weights of +0.0
unfoldable pub weights_by : ℕ → List ℕ → List Sample → WeightsReply
weights_by zero rec targets = record { number = 0; weights = weights_from (component_of (worked_rows (record_r rec) (record_q rec) (target_part_of targets) 16)) }
weights_by (suc n) rec targets = record { number = suc n; weights = weights_from (λ j. zero_float) }

unfoldable pub weights_of : List ℕ → List Sample → WeightsReply
weights_of rec targets = weights_by (weights_refusal_of rec) rec targets

-- the reply that is made of weights or a refusal
unfoldable pub weights_reply : Result (List Weight) Refusal → WeightsReply
weights_reply (Ok weights) = record { number = 0; weights = weights }
weights_reply (Err refusal) = record { number = number_of refusal; weights = weights_from (λ j. zero_float) }
