-- What the number 0 of a call's tests says: that each test is passed; and sums that pass each test. Assumes nothing.
use mathlib.Core.Path.{◌≡◌, refl}
use mathlib.Core.Bool.{true}
use mathlib.Core.List.{List}
use Prim.Native.Nat.{ℕ, zero, suc, ◌*◌, ◌^◌, ◌<◌, ◌≤◌}
use native.Mathlib.Omega.{arith}
use borrow.Author.Tests.{leb-true, leb-false, ltb-false, eqb-false, le-leb, lt-leb, le-ltb}
use lib.Dec.{leb, ltb, eqb}
use lib.IntN.{ℤ, nat_abs}
use lib.ListN.{length}
use Rattle.lists.proofs.Passing.{all_at, all_of}
use Rattle.refusals.specs.Refusals.{fails_if}
use Rattle.refusals.proofs.Refusals.{first-none, if_passed, unless_passed, buffer_passed}
use Rattle.covariance.specs.declared.Sums.{Sums}
use Rattle.covariance.specs.Sums.{sum_at, in_range, words_in_range_of, sums_test}
use Rattle.covariance.specs.AddSnapshot.{add_refusal_of}
use Rattle.covariance.specs.WriteMatrix.{write_refusal_of, write_by}

-- ---- the sums

abbrev pub Near : ℕ → List ℤ → Type 0
Near count words = (n : ℕ) → n < 128 → nat_abs (sum_at words n) ≤ 2 ^ 31 * count

pub near : (count : ℕ) (words : List ℤ) → words_in_range_of count words ≡ true → Near count words
unfolding words_in_range_of
near count words h n l = leb-true _ _ (all_at (λ k. in_range count (sum_at words k)) 128 h n l)

in_range_of : (count : ℕ) (words : List ℤ) → Near count words → words_in_range_of count words ≡ true
unfolding words_in_range_of
in_range_of count words h = all_of (λ k. in_range count (sum_at words k)) 128 (λ n l. le-leb _ _ (h n l))

pub record SumsAccepted (count : ℕ) (words : List ℤ) : Type 0 where
  pub few : count ≤ 4096
  pub inside : words_in_range_of count words ≡ true

pub sums-accepted : (count : ℕ) (words : List ℤ) → sums_test count words ≡ 0 → SumsAccepted count words
unfolding sums_test
sums-accepted count words h =
    let a = first-none (fails_if (ltb 4096 count) 10) _ h in
    record { few = ltb-false _ _ (if_passed (ltb 4096 count) 9 a.0); inside = unless_passed (words_in_range_of count words) 9 a.1 }

pub sums_pass : (count : ℕ) (words : List ℤ) → count ≤ 4096 → Near count words → sums_test count words ≡ 0
unfolding sums_test
sums_pass count words few h = simp (le-ltb 4096 count few, in_range_of count words h)

-- ---- adding

pub record AddAccepted (s : Sums) : Type 0 where
  pub room : s.count < 4096
  pub sums : SumsAccepted s.count s.words

pub add-accepted : (s : Sums) → add_refusal_of s ≡ 0 → AddAccepted s
unfolding add_refusal_of
add-accepted s h =
    let a = first-none (fails_if (leb 4096 s.count) 10) _ h in
    record { room = leb-false _ _ (if_passed (leb 4096 s.count) 9 a.0); sums = sums-accepted s.count s.words a.1 }

pub add-passes : (s : Sums) → s.count < 4096 → Near s.count s.words → add_refusal_of s ≡ 0
unfolding add_refusal_of
add-passes s room h = simp (lt-leb 4096 s.count room, sums_pass s.count s.words (omega arith) h)

-- ---- writing

pub record WriteAccepted (count : ℕ) (words : List ℤ) (buffer : List ℕ) : Type 0 where
  pub some : 0 < count
  pub sums : SumsAccepted count words
  pub space : 257 ≤ length buffer

pub write-accepted : (count : ℕ) (words : List ℤ) (buffer : List ℕ) → write_refusal_of count words buffer ≡ 0 → WriteAccepted count words buffer
unfolding write_refusal_of
write-accepted count words buffer h =
    let a = first-none (sums_test count words) _ h in
    let b = first-none (fails_if (eqb count 0) 9) _ a.1 in
    record {
      some = positive count (eqb-false _ _ (if_passed (eqb count 0) 8 b.0));
      sums = sums-accepted count words a.0;
      space = buffer_passed 257 buffer b.1;
    }
  where
    positive : (n : ℕ) → (n ≡ 0 → ⊥) → 0 < n
    positive zero f = absurd (f refl)
    positive (suc n) f = omega arith

-- the number by which an outcome is given is the number it has
pub write_by-number : (n : ℕ) (s : Sums) (buffer : List ℕ) → (write_by n s buffer).number ≡ n
unfolding write_by
write_by-number zero s buffer = refl
write_by-number (suc n) s buffer = refl
