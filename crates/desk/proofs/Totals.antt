-- The sum of a list of eight, element by element. Assumes nothing.
use Rattle.std.proofs.Common.{◌≡◌, ℕ, List, [], ◌∷◌, length, arith}
use Rattle.std.specs.Prelude.{sum}
use Rattle.integers.specs.Sum.{total}
use Rattle.desk.specs.Shares.{total_of}

pub total_is : (shares : List ℕ) → length shares ≡ 8 → sum shares ≡ total_of shares
unfolding total
total_is (a ∷ b ∷ c ∷ d ∷ e ∷ f ∷ g ∷ h ∷ []) l = omega arith
total_is shares l = absurd (omega arith)
