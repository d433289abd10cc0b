-- What test 8 says of the words of R. Assumes nothing.
use mathlib.Core.Path.{◌≡◌, ap}
use mathlib.Core.Bool.{true}
use Prim.Native.Nat.{ℕ, ◌≤◌, ◌<◌}
use native.Mathlib.Decide.{ℕ_discrete}
use native.Mathlib.Omega.{arith}
use borrow.Author.Tests.{lt-ltb, le-ltb, eq-eqb, eqb-true}
use lib.IntN.{pos, nat_abs}
use lib.Signed.{non_neg}
use Rattle.integers.specs.Matrix.{Matrix}
use Rattle.integers.proofs.Laws.{abs-zero}
use Rattle.lists.proofs.Passing.{pairs_at}
use Rattle.result_record.specs.ResultRecord.{is_finished_at, is_finished}

module _ (r : Matrix) (finished : is_finished r ≡ true) where
  at : (i j : ℕ) → i < 16 → j < 16 → is_finished_at i j (r i j) ≡ true
  unfolding is_finished
  at = pairs_at (λ i j. is_finished_at i j (r i j)) finished

  -- a word under the diagonal
  pub finished-zero : (i j : ℕ) → j < i → i < 16 → r i j ≡ pos 0
  unfolding is_finished_at
  finished-zero i j h p = abs-zero (r i j) (eqb-true (nat_abs (r i j)) 0 (rw (lt-ltb j i h) at (at i j p (omega arith))))

  -- the words of a row up to the diagonal, in the first fifteen rows
  pub finished_nonneg : (i j : ℕ) → j ≤ i → i < 15 → non_neg (r i j) ≡ true
  unfolding is_finished_at
  finished_nonneg i j h p = pick (ℕ_discrete i j)
    where
      pick : Dec (i ≡ j) → non_neg (r i j) ≡ true
      pick (yes e) = rw (le-ltb j i (omega arith), eq-eqb i j e, lt-ltb i 15 p) at (at i j (omega arith) (omega arith))
      pick (no d) = ap non_neg (finished-zero i j (omega arith) (omega arith))
