-- Of the target's parts, the rows read the 16. Assumes nothing.
use mathlib.Core.Path.{◌≡◌, refl}
use Prim.Native.Nat.{ℕ, zero, suc, ◌-◌, ◌<◌}
use lib.Ieee.{Float}
use lib.IntN.{ℤ}
use Rattle.integers.specs.Matrix.{Matrix}
use Rattle.integers.proofs.Sum.{sum_equal}
use Rattle.weights.specs.Solution.{right_sum_of, right_side_of, row_component_of, component_of, worked_rows}

module _ (r q : Matrix) (s t : ℕ → ℤ) (e : (j : ℕ) → j < 16 → s j ≡ t j) where
  sum_same : (i : ℕ) → right_sum_of q s i ≡ right_sum_of q t i
  unfolding right_sum_of
  sum_same i = sum_equal 16 (λ j h. rw (e j h))

  component_same : (x : ℕ → Float) (i : ℕ) → row_component_of r q s x i ≡ row_component_of r q t x i
  unfolding row_component_of right_side_of
  component_same x i = rw (sum_same i)

  pub parts_same : (n : ℕ) → worked_rows r q s n ≡ worked_rows r q t n
  unfolding worked_rows
  parts_same zero = refl
  parts_same (suc n) = rw (parts_same n, component_same (component_of (worked_rows r q t n)) (15 - n))
