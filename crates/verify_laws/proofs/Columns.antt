-- Two records that get yes, in which the square of a column's length is off by 2^46. Column 7 of the complex matrix has 32,767 in every row, and all else is 0, so
-- that columns 7 and 15 of the real one have eight words each. R has two steps more in each of them, and Q is the identity: each sum for Q times R that is not
-- right is off by 2^44, which is the limit. Assumes nothing.
use mathlib.Core.Path.{◌≡◌, refl, ap, subst}
use mathlib.Core.Bool.{Bool, true, false, ◌&&◌, cond}
use Prim.Native.Nat.{ℕ, ◌/◌, ◌%◌, ◌^◌, ◌<◌}
use native.Mathlib.Omega.{arith}
use lib.Dec.{eqb, lit<}
use lib.IntN.{ℤ, pos, nat_abs, ◌-ℤ◌, ◌*ℤ◌}
use mir.Syntax.{w32}
use mir.Val.{SFits}
use Rattle.integers.specs.Within.{Within, is_within}
use Rattle.integers.specs.Sum.{sum}
use Rattle.integers.proofs.Sum.{sum_equal}
use Rattle.lists.specs.Lists.{tabulate, all_below}
use Rattle.words.proofs.Bytes.{are_bytes, bytes_of}
use Rattle.refusals.specs.Refusals.{header_test}
use Rattle.matrix_record.specs.MatrixRecord.{part_of, matrix_byte, matrix_record_of, real_entry_of, antenna_heard_of, heard_below, matrix_refusal}
use Rattle.result_record.specs.ResultRecord.{result_word, result_byte, result_record_of, record_r, is_finished_at, is_finished}
use Rattle.accuracy.specs.Factorization.{gram, error_limit}
use Rattle.verify.specs.Verify.{is_product, is_orthogonal}
use Rattle.verify_laws.specs.Answers.{Columns}
use Rattle.verify_laws.specs.Columns.{YesWithoutColumns}
use Rattle.verify_laws.proofs.Answers.{factors_if}
use Rattle.verify_laws.proofs.Written.{same_r, written_yes}
use Rattle.verify_laws.proofs.Deviating.{input, r, q}

r_fits : (i j : ℕ) → i < 16 → j < 16 → SFits w32 (r i j)
unfolding r
r_fits i j h k = either (eqb (j % 8) 7 && eqb (i / 8) (j / 8))
  where
    either : (b : Bool) → SFits w32 (cond b (pos 268443648) (pos 0))
    either true = record { sfits = lit< tt }
    either false = record { sfits = lit< tt }

q_fits : (i j : ℕ) → i < 16 → j < 16 → SFits w32 (q i j)
unfolding q
q_fits i j h k = either (eqb i j)
  where
    either : (b : Bool) → SFits w32 (cond b (pos (2 ^ 30)) (pos 0))
    either true = record { sfits = lit< tt }
    either false = record { sfits = lit< tt }

-- computed
input_passes : matrix_refusal input ≡ 0
unfolding input matrix_record_of matrix_byte tabulate matrix_refusal header_test heard_below antenna_heard_of part_of
input_passes = refl

r-finished : is_finished r ≡ true
unfolding r is_finished is_finished_at all_below
r-finished = refl

sums_within : (is_product (real_entry_of input) r q && is_orthogonal q) ≡ true
unfolding input matrix_record_of matrix_byte tabulate real_entry_of part_of r q is_product is_orthogonal all_below is_within sum
sums_within = refl

lengths_off : nat_abs (gram r 7 7 -ℤ pos (2 ^ 26) *ℤ gram (real_entry_of input) 7 7) ≡ 2 ^ 46
unfolding input matrix_record_of matrix_byte tabulate real_entry_of part_of r sum
lengths_off = refl

off : Columns (real_entry_of input) (record_r (result_record_of r q)) → ⊥
off c =
    let e : gram (record_r (result_record_of r q)) 7 7 ≡ gram r 7 7 = sum_equal 16 (λ n h. ap (λ (x : ℤ). x *ℤ x) (same_r r q r_fits q_fits n 7 h (lit< tt))) in
    let w = subst (λ (x : ℤ). Within (x -ℤ pos (2 ^ 26) *ℤ gram (real_entry_of input) 7 7) error_limit) e (c 7 7 (lit< tt) (lit< tt)) in
    omega (arith, w.abs, lengths_off)

input_bytes : are_bytes input ≡ true
unfolding are_bytes input matrix_record_of matrix_byte tabulate
input_bytes = refl

result_bytes_lem : are_bytes (result_record_of r q) ≡ true
unfolding are_bytes r q result_record_of result_byte result_word tabulate
result_bytes_lem = refl

pub yes_without_columns : YesWithoutColumns
yes_without_columns = record {
  matrix = input;
  result = result_record_of r q;
  matrix_bytes_lem = bytes_of input input_bytes;
  result_bytes_lem = bytes_of (result_record_of r q) result_bytes_lem;
  yes = written_yes r q r_fits q_fits input input_passes r-finished (factors_if (real_entry_of input) r q sums_within);
  columns = off;
}
