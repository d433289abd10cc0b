-- The words of a matrix that is worked to the end fit 32 bits, so that its result record has them. Assumes nothing.
use mathlib.Core.Path.{refl, sym, ap, ◌∙◌}
use Prim.Native.Nat.{ℕ, ◌+◌, ◌-◌, ◌*◌, ◌^◌, ◌≤◌, ◌<◌}
use native.Mathlib.Nat.{le_trans, le_of_eq, mul-le-mul}
use native.Mathlib.Decide.{dec_lt}
use native.Mathlib.Omega.{arith}
use borrow.Author.Tests.{eq-eqb}
use lib.Dec.{lit<}
use lib.IntN.{ℤ, pos, nat_abs, ◌*ℤ◌}
use mir.Syntax.{w32}
use mir.Val.{SFits}
use Rattle.integers.specs.Matrix.{Matrix}
use Rattle.integers.specs.Sum.{sum}
use Rattle.integers.specs.Square.{square}
use Rattle.integers.proofs.Laws.{square_is, abs-*}
use Rattle.integers.proofs.Within.{within, within_abs, within_fits}
use Rattle.integers.proofs.Sum.{sum_equal, sum-total, sum-abs, one_of_total}
use Rattle.accuracy.specs.Factorization.{gram, Factorization}

-- a word whose square is far below 2^62
short : (x : ℤ) → square x ≤ 2 ^ 61 → SFits w32 x
short x h = pick (dec_lt (nat_abs x) (2 ^ 31))
  where
    pick : Dec (nat_abs x < 2 ^ 31) → SFits w32 x
    pick (yes k) = within_fits w32 x (within {x = x} {n = 2 ^ 31 - 1} (omega arith)) (lit< tt)
    pick (no k) =
        let l : 2 ^ 31 ≤ nat_abs x = omega arith in
        absurd (omega (arith, h, mul-le-mul l l))

-- a sum of squares bounds each
one_square : (f : ℕ → ℤ) (k : ℕ) → k < 16 → square (f k) ≤ nat_abs (sum 16 (λ n. f n *ℤ f n))
one_square f k h =
    le_trans (one_of_total 16 (λ n. square (f n)) k h)
    (le_of_eq (sym (ap nat_abs (sum_equal 16 (λ n l. square_is (f n)) ∙ sum-total 16 (λ n. square (f n))))))

module _ (a r q : Matrix) (f : Factorization a r q) where
  -- a row of Q with itself
  pub q_short : (i k : ℕ) → i < 16 → k < 16 → SFits w32 (q i k)
  q_short i k h l = short (q i k) (omega (arith, one_square (λ n. q i n) k l, norm))
    where
      norm : nat_abs (sum 16 (λ n. q i n *ℤ q i n)) ≤ 2 ^ 60 + 2 ^ 44
      norm = within_abs (sum 16 (λ n. q i n *ℤ q i n)) (pos (2 ^ 60)) (rw (eq-eqb i i refl) at (f.orthogonal i i h h))

  -- a column of R with itself, where the input's words are 16-bit numbers
  pub r_short : ((i j : ℕ) → nat_abs (a i j) ≤ 2 ^ 15) → (k j : ℕ) → k < 16 → j < 16 → SFits w32 (r k j)
  r_short small k j h l = short (r k j) (omega (arith, one_square (λ n. r n j) k h, within_abs (gram r j j) (pos (2 ^ 26) *ℤ gram a j j) (f.columns j j l l), abs-* (pos (2 ^ 26)) (gram a j j), input))
    where
      input : nat_abs (gram a j j) ≤ 16 * 2 ^ 30
      input = sum-abs 16 (2 ^ 30) (λ n. a n j *ℤ a n j) (λ n m. le_trans (le_of_eq (abs-* (a n j) (a n j))) (mul-le-mul (small n j) (small n j)))
