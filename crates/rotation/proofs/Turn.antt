-- A turn is skipped or made, and what holds of either holds of the turn: its length, what stays, and how much it counts. Assumes nothing.
use Prim.Native.Nat.{ℕ, ◌+◌, ◌*◌, ◌≤◌, ◌<◌}
use native.Mathlib.Omega.{arith}
use mathlib.Core.Path.{◌≡◌, refl}
use mathlib.Core.Logic.{◌≢◌}
use mathlib.Core.Bool.{Bool, true, false, cond}
use mathlib.Core.List.{List}
use lib.IntN.{ℤ, pos, nat_abs}
use lib.ListN.{length, get_or}
use lib.Signed.{non_neg}
use borrow.Author.Tests.{eqb-true}
use Rattle.integers.proofs.Laws.{abs-zero}
use Rattle.lists.proofs.Passing.{and_parts}
use Rattle.rotation.specs.declared.Saturations.{Saturations}
use Rattle.rotation.specs.Rotated.{rotated, saturations_of}
use Rattle.rotation.specs.Saturations.{no_saturations, CountOf}
use Rattle.rotation.specs.Turn.{is_clear_of, turned, turn_saturations, turn_made}
use Rattle.rotation.proofs.Places.{rotated-length, rotated_other, rotated-before}
use Rattle.rotation.proofs.Counts.{count_none, count_le, count_one}

module _ (c gap : ℕ) (l : List ℤ) where
  -- it is skipped, or it is made
  pub turn_cases : (P : List ℤ → Saturations → ℕ → Type 0) → (is_clear_of c gap l ≡ true → P l no_saturations 0)
      → (is_clear_of c gap l ≡ false → P (rotated c gap l) (saturations_of c gap l) 1) → P (turned c gap l) (turn_saturations c gap l) (turn_made c gap l)
  unfolding turned turn_saturations turn_made
  turn_cases P skipped made = pick (is_clear_of c gap l) refl
    where
      pick : (b : Bool) → is_clear_of c gap l ≡ b → P (cond b l (rotated c gap l)) (cond b no_saturations (saturations_of c gap l)) (cond b 0 1)
      pick true e = skipped e
      pick false e = made e

  pub turn_skipped : is_clear_of c gap l ≡ true → (l ≡ turned c gap l) × (no_saturations ≡ turn_saturations c gap l) × (0 ≡ turn_made c gap l)
  unfolding turned turn_saturations turn_made
  turn_skipped e = rw e (refl, refl, refl)

  pub turn_rotated : is_clear_of c gap l ≡ false → (rotated c gap l ≡ turned c gap l) × (saturations_of c gap l ≡ turn_saturations c gap l) × (1 ≡ turn_made c gap l)
  unfolding turned turn_saturations turn_made
  turn_rotated e = rw e (refl, refl, refl)

  -- ---- the words

  pub turned-length : length (turned c gap l) ≡ length l
  turned-length = turn_cases (λ words s n. length words ≡ length l) (λ e. refl) (λ e. rotated-length c gap l)

  pub turned-before : (i j : ℕ) → j < 32 → j < c → get_or (turned c gap l) (i * 32 + j) (pos 0) ≡ get_or l (i * 32 + j) (pos 0)
  turned-before i j q h = turn_cases (λ words s n. get_or words (i * 32 + j) (pos 0) ≡ get_or l (i * 32 + j) (pos 0)) (λ e. refl) (λ e. rotated-before c gap l i j q h)

  pub turned_other : (i j : ℕ) → j < 32 → i ≢ 0 → i ≢ gap → get_or (turned c gap l) (i * 32 + j) (pos 0) ≡ get_or l (i * 32 + j) (pos 0)
  turned_other i j q p r = turn_cases (λ words s n. get_or words (i * 32 + j) (pos 0) ≡ get_or l (i * 32 + j) (pos 0)) (λ e. refl) (λ e. rotated_other c gap l i j q p r)

  -- ---- the counts

  pub turn_count : CountOf 1 (turn_saturations c gap l)
  turn_count = turn_cases (λ words s n. CountOf 1 s) (λ e. count_le count_none (omega arith)) (λ e. count_one c gap l)

  pub turn_made_le : turn_made c gap l ≤ 1
  turn_made_le = turn_cases (λ words s n. n ≤ 1) (λ e. omega arith) (λ e. omega arith)

  -- ---- a clear one

  pub clear_words : is_clear_of c gap l ≡ true → (get_or l (gap * 32 + c) (pos 0) ≡ pos 0) × (non_neg (get_or l c (pos 0)) ≡ true)
  unfolding is_clear_of
  clear_words e =
      let a = and_parts _ _ e in
      (abs-zero (get_or l (gap * 32 + c) (pos 0)) (eqb-true (nat_abs (get_or l (gap * 32 + c) (pos 0))) 0 a.0), a.1)

  pub clear_of : get_or l (gap * 32 + c) (pos 0) ≡ pos 0 → non_neg (get_or l c (pos 0)) ≡ true → is_clear_of c gap l ≡ true
  unfolding is_clear_of
  clear_of p q = rw (p, q)
