-- The two records, by the matrix and by R and Q. Assumes nothing.
use mathlib.Core.Bool.{◌&&◌, cond}
use mathlib.Core.List.{List}
use Prim.Native.Nat.{ℕ, ◌/◌, ◌%◌, ◌^◌}
use lib.Dec.{eqb}
use lib.IntN.{pos}
use Rattle.integers.specs.Matrix.{Matrix}
use Rattle.matrix_record.specs.MatrixRecord.{matrix_record_of}

unfoldable pub input : List ℕ
input = matrix_record_of (λ e part. cond (eqb part 0 && eqb (e % 8) 7) (pos 32767) (pos 0))

-- 32,769 steps of 2^13
unfoldable pub r : Matrix
r i j = cond (eqb (j % 8) 7 && eqb (i / 8) (j / 8)) (pos 268443648) (pos 0)

unfoldable pub q : Matrix
q i j = cond (eqb i j) (pos (2 ^ 30)) (pos 0)
