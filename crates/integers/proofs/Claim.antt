-- Claims on numbers that antt can test. A claim is data; `Means` is what it says, `test` computes it, and one law, `sound`, leads from the test to the meaning.
-- A claim over a whole table is a function that makes one, and its proof is `sound _ tt`.
-- Assumes nothing.
use mathlib.Core.Path.{◌≡◌, sym, subst}
use mathlib.Core.Logic.{◌≢◌, ◌⊎◌, inl, inr}
use mathlib.Core.Bool.{Bool, true, false, not, ◌&&◌, ◌||◌}
use Prim.Native.Nat.{ℕ, zero, suc, ◌<◌}
use native.Mathlib.Nat.{eq-or-lt_of_le, le_of_suc-le-suc, not-suc-le-zero}
use lib.Dec.{T, T_not, ltb, eqb, ltb→lt, eqb→eq, eqb_refl}

pub data Claim : Type 0 where
  always never : Claim
  less same other : ℕ → ℕ → Claim
  both either : Claim → Claim → Claim

abbrev pub Means : Claim → Type 0
Means always = Unit {0}
Means never = ⊥
Means (less m n) = m < n
Means (same m n) = m ≡ n
Means (other m n) = m ≢ n
Means (both p q) = Means p × Means q
Means (either p q) = Means p ⊎ Means q

abbrev pub test : Claim → Bool
test always = true
test never = false
test (less m n) = ltb m n
test (same m n) = eqb m n
test (other m n) = not (eqb m n)
test (both p q) = test p && test q
test (either p q) = test p || test q

and_left : (a b : Bool) → T (a && b) → T a
and_left true b t = tt
and_left false b t = t

and_right : (a b : Bool) → T (a && b) → T b
and_right true b t = t
and_right false b t = absurd t

or_cases : (a b : Bool) → T (a || b) → T a ⊎ T b
or_cases true b h = inl tt
or_cases false b h = inr h

differ : (m n : ℕ) → T (not (eqb m n)) → m ≢ n
differ m n h e = T_not (eqb m n) h (subst (λ (k : ℕ). T (eqb m k)) e (eqb_refl m))

join : {A B X Y : Type 0} → (A → X) → (B → Y) → A ⊎ B → X ⊎ Y
join f g (inl a) = inl (f a)
join f g (inr b) = inr (g b)

-- what passes its test holds
pub sound : (p : Claim) → T (test p) → Means p
sound always t = tt
sound never t = t
sound (less m n) t = ltb→lt m n t
sound (same m n) t = eqb→eq m n t
sound (other m n) t = differ m n t
sound (both p q) t = (sound p (and_left (test p) (test q) t), sound q (and_right (test p) (test q) t))
sound (either p q) t = join (sound p) (sound q) (or_cases (test p) (test q) t)

-- f holds of all numbers below n
unfoldable pub each : ℕ → (ℕ → Claim) → Claim
each zero f = always
each (suc n) f = both (f n) (each n f)

pub each_at : (n : ℕ) (f : ℕ → Claim) → Means (each n f) → (k : ℕ) → k < n → Means (f k)
unfolding each
each_at zero f p k h = absurd (not-suc-le-zero h)
each_at (suc n) f p k h = pick (eq-or-lt_of_le (le_of_suc-le-suc h)) (each_at n f p.1 k)
  where
    pick : (k ≡ n) ⊎ (k < n) → (k < n → Means (f k)) → Means (f k)
    pick (inl e) ih = subst (λ (m : ℕ). Means (f m)) (sym e) p.0
    pick (inr l) ih = ih l
