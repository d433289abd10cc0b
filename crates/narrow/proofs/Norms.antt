-- Columns whose u² + v² is at most 2^60 + 2^44, by the test of a part. Assumes nothing.
use Prim.Native.Nat.{ℕ, ◌+◌, ◌*◌, ◌≤◌, ◌<◌}
use mathlib.Core.Path.{◌≡◌}
use mathlib.Core.Bool.{true}
use mathlib.Core.List.{List}
use lib.Dec.{leb}
use lib.IntN.{ℤ, pos}
use lib.ListN.{get_or}
use borrow.Author.Tests.{lt-ltb, le-ltb, leb-true}
use Rattle.integers.proofs.Within.{within}
use Rattle.integers.proofs.Laws.{abs_squares}
use Rattle.integers.specs.Square.{square}
use Rattle.lists.proofs.Passing.{Passed, all_at, all_of}
use Rattle.cordic.specs.Norm.{norm_bound}
use Rattle.rotation.specs.Rotated.{saturations_of}
use Rattle.rotation.specs.Saturations.{no_saturations}
use Rattle.rotation.proofs.Column.{saturations_none}
use Rattle.rows.specs.Lanes.{words_at}
use Rattle.narrow.specs.Narrow.{Bounded, norm_bounded, norms_bounded_of}

-- ---- the test of the columns

-- column k of the part, from the leading one on
module _ (base c : ℕ) (l : List ℤ) (k : ℕ) (from : c ≤ k) where
  pub test_is : norm_bounded base c l k ≡ leb (square (get_or l k (pos 0)) + square (get_or l (base + k) (pos 0))) norm_bound
  unfolding norm_bounded
  test_is = rw (le-ltb k c from)

  pub bounded_at : norms_bounded_of base c l ≡ true → k < 32 → square (get_or l k (pos 0)) + square (get_or l (base + k) (pos 0)) ≤ norm_bound
  unfolding norms_bounded_of
  bounded_at h below = leb-true _ _ (rw test_is at (all_at (norm_bounded base c l) 32 h k below))

-- the columns before the leading one pass
pub test_none : (base c : ℕ) (l : List ℤ) → c ≤ 32 → Passed 32 (norm_bounded base c l) c
unfolding norm_bounded
test_none base c l h = record { within = h; held = all_of (norm_bounded base c l) c (λ k below. rw (lt-ltb k c below)) }

-- where the test holds, the columns from the leading one on can be worked in 32-bit words
pub bounded_columns : (base c : ℕ) (l : List ℤ) → norms_bounded_of base c l ≡ true → (k : ℕ) → c ≤ k → k < 32 → Bounded (words_at base l k)
unfolding words_at
bounded_columns base c l h k from below =
    record { norm = within (rw (abs_squares (get_or l k (pos 0)) (get_or l (base + k) (pos 0))) (bounded_at base c l k from h below)) }

-- where the test holds, the rotation counts nothing
pub bounded_none : (c gap : ℕ) (l : List ℤ) → norms_bounded_of (gap * 32) c l ≡ true → saturations_of c gap l ≡ no_saturations
bounded_none c gap l h =
    saturations_none c gap l
    (λ k from below. within (rw (abs_squares (get_or l k (pos 0)) (get_or l (gap * 32 + k) (pos 0))) (bounded_at (gap * 32) c l k from h below)))
