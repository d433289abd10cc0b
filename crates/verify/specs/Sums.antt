-- Only the contracts of inner functions use this: the pairs of both families as pairs of a column of Q transposed and any column of the workspace that a
-- result is read into. Assumes nothing.
use Rattle.std.specs.Prelude.{ℕ, ◌+◌, ◌/◌, ◌%◌, ◌^◌, Bool, List, ℤ, pos, ◌-ℤ◌, ◌*ℤ◌, get_or}
use Rattle.integers.specs.Within.{is_within}
use Rattle.rotation.specs.Column.{row_words}
use Rattle.workspace.specs.Workspace.{word_in}
use Rattle.accuracy.specs.Factorization.{gram, error_limit}

-- the sum for row k / 32 of Q and column k % 32 of the workspace lies within the limit of 2^30 times the loaded word k
unfoldable pub is_near : List ℤ → List ℤ → ℕ → Bool
is_near words loaded k = is_within (gram (word_in words) (16 + k / row_words) (k % row_words) -ℤ pos (2 ^ 30) *ℤ get_or loaded k (pos 0)) error_limit
