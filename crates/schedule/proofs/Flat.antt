-- A list that passes one test against the whole schedule, which antt computes, is the schedule laid out flat; and the schedule's rotation stands at each
-- entry of that. The table in src/ has rows; these laws are for its 360 numbers one behind another, as docs/changes cites them. Assumes nothing.
use mathlib.Core.Path.{◌≡◌, refl, ap, ap₂, ◌∙◌}
use mathlib.Core.List.{List, [], ◌∷◌}
use Prim.Native.Nat.{ℕ, zero, suc, ◌+◌, ◌*◌}
use native.Mathlib.Omega.{arith}
use lib.Dec.{T}
use lib.ListN.{get_or}
use Rattle.schedule.specs.declared.Rotation.{Rotation}
use Rattle.schedule.specs.Schedule.{schedule, flat, no_rotation, rotation_at_of}
use Rattle.integers.proofs.Claim.{Claim, always, never, same, both, Means, test, sound}

-- ---- the law: two lists of which the claim holds are equal

unfoldable pub equal : List ℕ → List ℕ → Claim
equal [] [] = always
equal [] (y ∷ ys) = never
equal (x ∷ xs) [] = never
equal (x ∷ xs) (y ∷ ys) = both (same x y) (equal xs ys)

equal_is : (xs ys : List ℕ) → Means (equal xs ys) → xs ≡ ys
unfolding equal
equal_is [] [] p = refl
equal_is [] (y ∷ ys) p = absurd p
equal_is (x ∷ xs) [] p = absurd p
equal_is (x ∷ xs) (y ∷ ys) p = ap₂ ◌∷◌ p.0 (equal_is xs ys p.1)

-- so the computed test makes them equal
pub tested : (xs ys : List ℕ) → T (test (equal xs ys)) → xs ≡ ys
tested xs ys t = equal_is xs ys (sound (equal xs ys) t)

-- ---- rotations laid out as numbers

three_more : (k : ℕ) → 3 * suc k ≡ suc (suc (suc (3 * k)))
three_more k = omega arith

flat-column : (ts : List Rotation) (k : ℕ) → get_or (flat ts) (3 * k) 0 ≡ (get_or ts k no_rotation).column
unfolding flat
flat-column [] k = refl
flat-column (t ∷ ts) zero = refl
flat-column (t ∷ ts) (suc k) = rw (three_more k) (flat-column ts k)

flat-upper : (ts : List Rotation) (k : ℕ) → get_or (flat ts) (suc (3 * k)) 0 ≡ (get_or ts k no_rotation).upper
unfolding flat
flat-upper [] k = refl
flat-upper (t ∷ ts) zero = refl
flat-upper (t ∷ ts) (suc k) = rw (three_more k) (flat-upper ts k)

flat-lower : (ts : List Rotation) (k : ℕ) → get_or (flat ts) (suc (suc (3 * k))) 0 ≡ (get_or ts k no_rotation).lower
unfolding flat
flat-lower [] k = refl
flat-lower (t ∷ ts) zero = refl
flat-lower (t ∷ ts) (suc k) = rw (three_more k) (flat-lower ts k)

-- ---- the rule at each rotation
module _ (n : ℕ) where
  read_upper : get_or (flat schedule) (3 * n + 1) 0 ≡ (get_or schedule n no_rotation).upper
  read_upper =
      let one : 3 * n + 1 ≡ suc (3 * n) = omega arith in
      ap (λ (k : ℕ). get_or (flat schedule) k 0) one ∙ flat-upper schedule n

  read_lower : get_or (flat schedule) (3 * n + 2) 0 ≡ (get_or schedule n no_rotation).lower
  read_lower =
      let two : 3 * n + 2 ≡ suc (suc (3 * n)) = omega arith in
      ap (λ (k : ℕ). get_or (flat schedule) k 0) two ∙ flat-lower schedule n

  pub read_rotation : ◌≡◌ {A = Rotation} (record { column = get_or (flat schedule) (3 * n) 0; upper = get_or (flat schedule) (3 * n + 1) 0; lower = get_or (flat schedule) (3 * n + 2) 0 }) (rotation_at_of n)
  unfolding rotation_at_of
  read_rotation = λ i. record { column = flat-column schedule n i; upper = read_upper i; lower = read_lower i }
