-- The pairs of both families are those of a column of Q transposed and any column of the workspace that a result is read into. Assumes nothing.
use mathlib.Core.Path.{◌≡◌, refl, sym, ap, ap₂, ◌∙◌}
use mathlib.Core.Bool.{Bool, true, false, ◌&&◌}
use mathlib.Core.List.{List}
use Prim.Native.Nat.{ℕ, ◌+◌, ◌-◌, ◌*◌, ◌/◌, ◌%◌, ◌^◌, ◌<◌}
use native.Mathlib.Decide.{dec_lt}
use native.Mathlib.Omega.{arith}
use lib.IntN.{ℤ, pos, ◌-ℤ◌, ◌*ℤ◌}
use Rattle.integers.specs.Sum.{sum}
use Rattle.integers.specs.Within.{is_within}
use Rattle.integers.proofs.Sum.{sum_equal}
use Rattle.lists.specs.Lists.{all_below}
use Rattle.lists.proofs.Passing.{and_parts, all_at, all_of, pairs_at, pairs_of}
use Rattle.matrix_record.specs.MatrixRecord.{real_entry_of}
use Rattle.result_record.specs.ResultRecord.{record_r, record_q}
use Rattle.workspace.specs.Workspace.{word_in, R, Q}
use Rattle.workspace.specs.Loading.{loaded_words}
use Rattle.workspace.specs.Reading.{read_words}
use Rattle.workspace.proofs.Filled.{loaded_at_lem, read-r, read-q}
use Rattle.accuracy.specs.Factorization.{gram, error_limit, product_error, rows_error}
use Rattle.accuracy.proofs.Accurate.{loaded-product, loaded_identity}
use Rattle.verify.specs.Verify.{is_product, is_orthogonal}
use Rattle.verify.specs.Sums.{is_near}

-- tests that hold of the same
both_ways : (a b : Bool) → (a ≡ true → b ≡ true) → (b ≡ true → a ≡ true) → a ≡ b
both_ways true b f g = sym (f refl)
both_ways false true f g = g refl
both_ways false false f g = refl

module _ (matrix result : List ℕ) (w l : List ℤ) where
  abbrev near_at : ℕ → Bool
  near_at = is_near (read_words result w) (loaded_words matrix l)

  -- a pair by row and column
  at : (i c : ℕ) → i < 16 → c < 32 → near_at (i * 32 + c) ≡ is_within (gram (word_in (read_words result w)) (16 + i) c -ℤ pos (2 ^ 30) *ℤ word_in (loaded_words matrix l) i c) error_limit
  unfolding is_near word_in
  at i c h k =
      let row : (i * 32 + c) / 32 ≡ i = omega arith in
      let column : (i * 32 + c) % 32 ≡ c = omega arith in
      rw (row, column)

  -- Q's row i with a column of R, and with a row of Q
  abbrev product_at : ℕ → ℕ → Bool
  product_at i j = is_within (product_error (real_entry_of matrix) (record_r result) (record_q result) i j) error_limit

  abbrev rows_at : ℕ → ℕ → Bool
  rows_at i j = is_within (rows_error (record_q result) i j) error_limit

  r-sum : (i j : ℕ) → i < 16 → j < 16 → gram (word_in (read_words result w)) (16 + i) j ≡ sum 16 (λ k. record_q result i k *ℤ record_r result k j)
  unfolding R Q
  r-sum i j h k = sum_equal 16 (λ n m. ap₂ (λ (x y : ℤ). x *ℤ y) (read-q result w i n h m) (read-r result w n j m k))

  q-sum : (i j : ℕ) → i < 16 → j < 16 → gram (word_in (read_words result w)) (16 + i) (16 + j) ≡ sum 16 (λ k. record_q result i k *ℤ record_q result j k)
  unfolding Q
  q-sum i j h k = sum_equal 16 (λ n m. ap₂ (λ (x y : ℤ). x *ℤ y) (read-q result w i n h m) (read-q result w j n k m))

  product_is : (i j : ℕ) → i < 16 → j < 16 → near_at (i * 32 + j) ≡ product_at i j
  product_is i j h k =
      let c : j < 32 = omega arith in
      at i j h c
      ∙ ap₂ (λ (x y : ℤ). is_within (x -ℤ y) error_limit) (r-sum i j h k) (ap (λ (x : ℤ). pos (2 ^ 30) *ℤ x) (loaded_at_lem matrix l i j h c) ∙ loaded-product matrix i j k)

  rows_is : (i j : ℕ) → i < 16 → j < 16 → near_at (i * 32 + (16 + j)) ≡ rows_at i j
  rows_is i j h k =
      let c : 16 + j < 32 = omega arith in
      at i (16 + j) h c
      ∙ ap₂ (λ (x y : ℤ). is_within (x -ℤ y) error_limit) (q-sum i j h k) (ap (λ (x : ℤ). pos (2 ^ 30) *ℤ x) (loaded_at_lem matrix l i (16 + j) h c) ∙ loaded_identity matrix i j)

  -- pair number k of the workspace is one of R or one of Q
  one : (k : ℕ) → k < 512 → ((i j : ℕ) → i < 16 → j < 16 → product_at i j ≡ true) → ((i j : ℕ) → i < 16 → j < 16 → rows_at i j ≡ true) → near_at k ≡ true
  one k h p q = pick (dec_lt (k % 32) 16)
    where
      pick : Dec (k % 32 < 16) → near_at k ≡ true
      pick (yes c) =
          let e : k / 32 * 32 + k % 32 ≡ k = omega arith in
          rw e at (product_is (k / 32) (k % 32) (omega arith) c ∙ p (k / 32) (k % 32) (omega arith) c)
      pick (no c) =
          let e : k / 32 * 32 + (16 + (k % 32 - 16)) ≡ k = omega arith in
          rw e at (rows_is (k / 32) (k % 32 - 16) (omega arith) (omega arith) ∙ q (k / 32) (k % 32 - 16) (omega arith) (omega arith))

  pub pairs_are : all_below 512 near_at ≡ (is_product (real_entry_of matrix) (record_r result) (record_q result) && is_orthogonal (record_q result))
  unfolding is_product is_orthogonal
  pairs_are = both_ways _ _ there back
    where
      there : all_below 512 near_at ≡ true → (all_below 256 (λ p. product_at (p / 16) (p % 16)) && all_below 256 (λ p. rows_at (p / 16) (p % 16))) ≡ true
      there e =
          rw (pairs_of product_at (λ i j h k. sym (product_is i j h k) ∙ all_at near_at 512 e (i * 32 + j) (omega arith)))
          (pairs_of rows_at (λ i j h k. sym (rows_is i j h k) ∙ all_at near_at 512 e (i * 32 + (16 + j)) (omega arith)))

      back : (all_below 256 (λ p. product_at (p / 16) (p % 16)) && all_below 256 (λ p. rows_at (p / 16) (p % 16))) ≡ true → all_below 512 near_at ≡ true
      back e =
          let f = and_parts _ _ e in
          all_of near_at 512 (λ k h. one k h (pairs_at product_at f.0) (pairs_at rows_at f.1))
