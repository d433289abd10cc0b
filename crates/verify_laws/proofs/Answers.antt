-- What yes, no and a refusal say. Assumes nothing.
use mathlib.Core.Path.{◌≡◌, refl, sym, ap, ◌∙◌, subst}
use mathlib.Core.Bool.{Bool, true, false, ◌&&◌}
use mathlib.Core.List.{List, ◌∷◌}
use Prim.Native.Nat.{ℕ, zero, suc, ◌^◌}
use native.Mathlib.Omega.{arith}
use native.Mathlib.Nat.{le_refl}
use lib.Dec.{T, leb-zero, lit<}
use lib.IntN.{ℤ, pos, negsuc, nat_abs}
use lib.ListN.{replicate}
use lib.Signed.{◌≤ℤ◌, non_neg}
use Rattle.integers.specs.Matrix.{Matrix}
use Rattle.integers.specs.Sum.{sum}
use Rattle.integers.specs.Within.{is_within}
use Rattle.integers.proofs.Within.{within_if, if_within}
use Rattle.lists.specs.Lists.{all_below}
use Rattle.lists.proofs.Passing.{and_parts, pairs_at, pairs_of}
use Rattle.refusals.specs.Refusals.{header_test}
use Rattle.refusals.proofs.Refusals.{first_is, first-none}
use Rattle.matrix_record.specs.MatrixRecord.{part_of, real_entry_of, antenna_heard_of, heard_below, matrix_refusal}
use Rattle.result_record.specs.ResultRecord.{record_word, record_r, record_q, is_finished_at, is_finished, record_refusal_of}
use Rattle.result_record.proofs.Accepted.{record-accepted}
use Rattle.result_record.proofs.Finished.{finished-zero, finished_nonneg}
use Rattle.accuracy.specs.Factorization.{error_limit, product_error, rows_error, Factorization}
use Rattle.verify.specs.declared.Verdict.{Verdict}
use Rattle.verify.specs.Verify.{is_product, is_orthogonal, verify_refusal_of, verdict_by, verdict_of}
use Rattle.verify_laws.specs.Answers.{Yes, No, Factors, Columns, AnswersSay}
use Rattle.verify_laws.specs.Judged.{heard_by, ZerosGetNo}

-- ---- the test and the clauses

module _ (a r q : Matrix) where
  abbrev product_at : ℕ → ℕ → Bool
  product_at i j = is_within (product_error a r q i j) error_limit

  abbrev rows_at : ℕ → ℕ → Bool
  rows_at i j = is_within (rows_error q i j) error_limit

  pub factors_if : (is_product a r q && is_orthogonal q) ≡ true → Factors a r q
  unfolding is_product is_orthogonal
  factors_if e =
      let f = and_parts (is_product a r q) (is_orthogonal q) e in
      record {
        product = λ i j h k. within_if (product_error a r q i j) error_limit (pairs_at product_at f.0 i j h k);
        orthogonal = λ i j h k. within_if (rows_error q i j) error_limit (pairs_at rows_at f.1 i j h k);
      }

  pub if_factors : Factors a r q → (is_product a r q && is_orthogonal q) ≡ true
  unfolding is_product is_orthogonal
  if_factors f = rw (pairs_of product_at (λ i j h k. if_within (f.product i j h k))) (pairs_of rows_at (λ i j h k. if_within (f.orthogonal i j h k)))

-- ---- the answer and its parts

yes_parts : (n : ℕ) (t : Bool) → verdict_by n t ≡ record { number = 0; yes = 1 } → (n ≡ 0) × (t ≡ true)
unfolding verdict_by
yes_parts zero true e = (refl, refl)
yes_parts zero false e = let z = ap (λ (v : Verdict). v.yes) e in absurd (omega (arith, z))
yes_parts (suc n) t e = let z = ap (λ (v : Verdict). v.number) e in absurd (omega (arith, z))

no_parts : (n : ℕ) (t : Bool) → verdict_by n t ≡ record { number = 0; yes = 0 } → (n ≡ 0) × (t ≡ false)
unfolding verdict_by
no_parts zero false e = (refl, refl)
no_parts zero true e = let z = ap (λ (v : Verdict). v.yes) e in absurd (omega (arith, z))
no_parts (suc n) t e = let z = ap (λ (v : Verdict). v.number) e in absurd (omega (arith, z))

refused-parts : (n : ℕ) (t : Bool) → (n ≡ 0 → ⊥) → verdict_by n t ≡ record { number = n; yes = 0 }
unfolding verdict_by
refused-parts zero t f = absurd (f refl)
refused-parts (suc n) t f = refl

true_is_not_false : true ≡ false → ⊥
true_is_not_false e = subst T e tt

at_least : (z : ℤ) → non_neg z ≡ true → pos 0 ≤ℤ z
at_least (pos n) e = record { le = subst T (sym (leb-zero n)) tt }
at_least (negsuc n) e = absurd (true_is_not_false (sym e))

if_not : (t : Bool) → (t ≡ true → ⊥) → t ≡ false
if_not true f = absurd (f refl)
if_not false f = refl

module _ (matrix result : List ℕ) where
  abbrev tested : Bool
  tested = is_product (real_entry_of matrix) (record_r result) (record_q result) && is_orthogonal (record_q result)

  pub yes_if : verify_refusal_of matrix result ≡ 0 → Factors (real_entry_of matrix) (record_r result) (record_q result) → Yes matrix result
  unfolding verdict_of verdict_by
  yes_if e f = rw (e, if_factors (real_entry_of matrix) (record_r result) (record_q result) f)

  yes_says : Yes matrix result → (verify_refusal_of matrix result ≡ 0) × Factors (real_entry_of matrix) (record_r result) (record_q result)
  unfolding verdict_of
  yes_says y =
      let p = yes_parts (verify_refusal_of matrix result) tested y in
      (p.0, factors_if (real_entry_of matrix) (record_r result) (record_q result) p.1)

  no_if : verify_refusal_of matrix result ≡ 0 → (Factors (real_entry_of matrix) (record_r result) (record_q result) → ⊥) → No matrix result
  unfolding verdict_of verdict_by
  no_if e f = rw (e, if_not tested (λ t. f (factors_if (real_entry_of matrix) (record_r result) (record_q result) t)))

  no_says : No matrix result → (verify_refusal_of matrix result ≡ 0) × (Factors (real_entry_of matrix) (record_r result) (record_q result) → ⊥)
  unfolding verdict_of
  no_says n =
      let p = no_parts (verify_refusal_of matrix result) tested n in
      (p.0, λ f. true_is_not_false (sym (if_factors (real_entry_of matrix) (record_r result) (record_q result) f) ∙ p.1))

  refused : (verify_refusal_of matrix result ≡ 0 → ⊥) → verdict_of matrix result ≡ record { number = verify_refusal_of matrix result; yes = 0 }
  unfolding verdict_of
  refused f = refused-parts (verify_refusal_of matrix result) tested f

  -- ---- the tests

  matrix-first : (matrix_refusal matrix ≡ 0 → ⊥) → verify_refusal_of matrix result ≡ matrix_refusal matrix
  unfolding verify_refusal_of
  matrix-first f = sym (first_is (matrix_refusal matrix) (record_refusal_of result) f)

  pub result-next : matrix_refusal matrix ≡ 0 → verify_refusal_of matrix result ≡ record_refusal_of result
  unfolding verify_refusal_of
  result-next e = rw e

  result_passed : verify_refusal_of matrix result ≡ 0 → record_refusal_of result ≡ 0
  unfolding verify_refusal_of
  result_passed e = (first-none (matrix_refusal matrix) (record_refusal_of result) e).1

  -- what test 8 says of R
  but_columns : Yes matrix result → Columns (real_entry_of matrix) (record_r result) → Factorization (real_entry_of matrix) (record_r result) (record_q result)
  but_columns y c =
      let s = yes_says y in
      let r = (record-accepted result (result_passed s.0)).finished in
      record {
        triangular = finished-zero (record_r result) r;
        diagonal = λ j h. at_least (record_r result j j) (finished_nonneg (record_r result) r j j (le_refl j) h);
        product = s.1.product;
        orthogonal = s.1.orthogonal;
        columns = c;
      }

pub answers_say : AnswersSay
answers_say matrix result = record {
  yes = (yes_says matrix result, λ h. yes_if matrix result h.0 h.1);
  no = (no_says matrix result, λ h. no_if matrix result h.0 h.1);
  refused = refused matrix result;
  matrix-first = matrix-first matrix result;
  result-next = result-next matrix result;
  but_columns = but_columns matrix result;
  factorization = λ e f. yes_if matrix result e (record { product = f.product; orthogonal = f.orthogonal });
}

-- ---- a no: the first row of Q has no length

zeros_pass : verify_refusal_of (heard_by 17) (2 ∷ replicate 2048 0) ≡ 0
unfolding verify_refusal_of matrix_refusal header_test heard_by heard_below antenna_heard_of part_of record_refusal_of record_r record_word is_finished is_finished_at all_below
zeros_pass = refl

first_row : nat_abs (rows_error (record_q (2 ∷ replicate 2048 0)) 0 0) ≡ 2 ^ 60
unfolding record_q record_word sum
first_row = refl

pub zeros_get_no : ZerosGetNo
zeros_get_no = no_if (heard_by 17) (2 ∷ replicate 2048 0) zeros_pass (λ f. omega (arith, (f.orthogonal 0 0 (lit< tt) (lit< tt)).abs, first_row))
