-- The lengths of R's columns, from the products of a column with itself. Assumes nothing.
use mathlib.Core.Path.{◌≡◌, refl, sym, ap, ◌∙◌, subst, subst₂}
use mathlib.Core.Logic.{◌≢◌}
use Prim.Native.Nat.{ℕ, zero, suc, ◌+◌, ◌*◌, ◌^◌, ◌≤◌, ◌<◌}
use native.Mathlib.Omega.{arith}
use lib.IntN.{ℤ, pos, nat_abs, ◌-ℤ◌, ◌*ℤ◌, zero-*ℤ}
use Rattle.integers.specs.Matrix.{Matrix}
use Rattle.integers.specs.Within.{Within}
use Rattle.integers.specs.Square.{square}
use Rattle.integers.proofs.Laws.{square_is}
use Rattle.integers.proofs.Within.{within_abs, within_swap}
use Rattle.integers.proofs.Sum.{sum_one}
use Rattle.integers.proofs.Root.{root_most, root_least}
use Rattle.matrix_record.specs.MatrixRecord.{real_entry_of}
use Rattle.workspace.specs.Workspace.{R, Q}
use Rattle.accuracy.specs.Factorization.{Factorization}
use Rattle.accuracy.specs.Demand3.{Load, workspace_after}
use Rattle.accuracy.specs.Lengths.{squared_length, Lengths, LengthsKept}
use Rattle.accuracy.proofs.Gram.{gram-length}
use Rattle.accuracy.proofs.Start.{first}
use Rattle.accuracy.proofs.Demand3.{done}

module _ (a r q : Matrix) (f : Factorization a r q) where
  -- 2^13 times the length of the input's column j, squared
  abbrev scaled : ℕ → ℕ
  scaled j = 2 ^ 26 * squared_length a j

  column_near : (j : ℕ) → j < 16 → Within (pos (squared_length r j) -ℤ pos (scaled j)) (2 ^ 44)
  column_near j h = subst₂ (λ (x y : ℤ). Within (x -ℤ pos (2 ^ 26) *ℤ y) (2 ^ 44)) (gram-length r j) (gram-length a j) (f.columns j j h h)

  -- the first column has one word
  one_word : squared_length r 0 ≡ square (r 0 0)
  one_word = ap nat_abs (sym (gram-length r 0) ∙ sum_one 16 (λ k. r k 0 *ℤ r k 0) 0 (omega arith) below ∙ square_is (r 0 0))
    where
      below : (k : ℕ) → k < 16 → k ≢ 0 → r k 0 *ℤ r k 0 ≡ pos 0
      below zero h d = absurd (d refl)
      below (suc k) h d = ap (λ x. x *ℤ r (suc k) 0) (f.triangular (suc k) 0 (omega arith) h) ∙ zero-*ℤ (r (suc k) 0)

  word_near : Within (pos (square (r 0 0)) -ℤ pos (scaled 0)) (2 ^ 44)
  word_near = subst (λ (x : ℕ). Within (pos x -ℤ pos (scaled 0)) (2 ^ 44)) one_word (column_near 0 (omega arith))

  not_above : square (r 0 0) ≤ scaled 0 + 2 ^ 44
  not_above = within_abs (pos (square (r 0 0))) (pos (scaled 0)) word_near

  not_below : scaled 0 ≤ square (r 0 0) + 2 ^ 44
  not_below = within_abs (pos (scaled 0)) (pos (square (r 0 0))) (within_swap (pos (square (r 0 0))) (pos (scaled 0)) word_near)

pub lengths_kept : LengthsKept
lengths_kept a r q f = record {
  column = column_near a r q f;
  first-length = one_word a r q f;
  first-square = word_near a r q f;
  first_least = root_least (nat_abs (r 0 0)) (2 ^ 26 * squared_length a 0) (2 ^ 22) (not_above a r q f);
  first-most = root_most (nat_abs (r 0 0)) (2 ^ 26 * squared_length a 0) (2 ^ 22) (not_below a r q f);
}

-- the premise is met by every accepted record, after all turns
pub worked_lengths : (l : Load) → Lengths (real_entry_of l.bytes) (R (workspace_after (first l) 120))
worked_lengths l = lengths_kept (real_entry_of l.bytes) (R (workspace_after (first l) 120)) (Q (workspace_after (first l) 120)) (done l)
