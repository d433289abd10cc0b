-- What a pass over the sums says of the test of all. Assumes nothing.
use Rattle.std.proofs.Common.{◌≡◌, refl, sym, ℕ, Bool, true, false, List, ℤ, length, EachIndex, ◌↔◌, IsTrue, arith}
use Rattle.lists.proofs.Passing.{all_at, all_of}
use Rattle.covariance.specs.Sums.{sum_at, in_range, words_in_range_of}

-- tests that hold of the same
both_ways : (a b : Bool) → (a ≡ true → b ≡ true) → (b ≡ true → a ≡ true) → a ≡ b
both_ways true b f g = sym (f refl)
both_ways false true f g = g refl
both_ways false false f g = refl

pub decided : (b : Bool) (count : ℕ) (words : List ℤ) → length words ≡ 128 → (IsTrue b ↔ EachIndex words (λ n. in_range count (sum_at words n) ≡ true)) → b ≡ words_in_range_of count words
unfolding words_in_range_of
decided b count words e h =
    both_ways b _ (λ t. all_of (λ n. in_range count (sum_at words n)) 128 (λ n l. h.0 t n (omega arith)))
    (λ t. h.1 (λ n l. all_at (λ n. in_range count (sum_at words n)) 128 t n (omega arith)))
