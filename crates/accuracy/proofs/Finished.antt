-- The R of a matrix that is worked to the end passes test 8. Assumes nothing.
use mathlib.Core.Path.{◌≡◌, refl}
use mathlib.Core.Bool.{Bool, true, false, cond}
use Prim.Native.Nat.{ℕ, ◌<◌}
use native.Mathlib.Decide.{ℕ_discrete, dec_lt}
use native.Mathlib.Omega.{arith}
use lib.Dec.{T, ltb, eqb}
use borrow.Author.Tests.{lt-ltb, le-ltb, eq-eqb, ne_eqb}
use lib.Signed.{non_neg, yes_non_neg}
use Rattle.lists.proofs.Passing.{pairs_of}
use Rattle.integers.specs.Matrix.{Matrix, is_zero}
use Rattle.result_record.specs.ResultRecord.{is_finished_at, is_finished}
use Rattle.accuracy.specs.Factorization.{Factorization}

is_true : (b : Bool) → T b → b ≡ true
is_true true t = refl
is_true false t = absurd t

module _ (a r q : Matrix) (f : Factorization a r q) where
  finished_at_lem : (i j : ℕ) → i < 16 → is_finished_at i j (r i j) ≡ true
  unfolding is_finished_at
  finished_at_lem i j h = pick (dec_lt j i) (ℕ_discrete i j) (dec_lt i 15)
    where
      pick : Dec (j < i) → Dec (i ≡ j) → Dec (i < 15) → cond (ltb j i) (is_zero (r i j)) (cond (eqb i j) (cond (ltb i 15) (non_neg (r i j)) true) true) ≡ true
      pick (yes p) q r = rw (lt-ltb j i p, f.triangular i j p h)
      pick (no p) (yes q) (yes r) = rw (le-ltb j i (omega arith), eq-eqb i j q, lt-ltb i 15 r, ← q) (is_true _ (yes_non_neg (f.diagonal i r)))
      pick (no p) (yes q) (no r) = rw (le-ltb j i (omega arith), eq-eqb i j q, le-ltb i 15 (omega arith))
      pick (no p) (no q) r = rw (le-ltb j i (omega arith), ne_eqb i j q)

  pub finished : is_finished r ≡ true
  unfolding is_finished
  finished = pairs_of (λ i j. is_finished_at i j (r i j)) (λ i j h k. finished_at_lem i j h)
