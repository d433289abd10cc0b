-- The order of ℤ: it is what the sum says it is, and squares are not negative.
-- Assumes nothing.
use mathlib.Core.Path.{◌≡◌, refl, sym, ap, subst}
use Prim.Native.Nat.{ℕ, suc, ◌+◌, ◌*◌, ◌-◌, ◌≤◌}
use native.Mathlib.Omega.{arith}
use lib.Dec.{T, leb→le, le→leb}
use lib.IntN.{ℤ, pos, negsuc, sub_ℕ, ◌+ℤ◌, ◌*ℤ◌}
use lib.Signed.{le_z, ◌≤ℤ◌, le_z_yes}
use Rattle.integers.proofs.Laws.{sub_cases}

pub sub-pos : (a b d : ℕ) → b + d ≡ a → sub_ℕ a b ≡ pos d
sub-pos a b d e = sub_cases (λ z. z ≡ pos d) a b (λ c h. absurd (no_less c h)) (λ c h. ap pos (same c h))
  where
    no_less : (c : ℕ) → suc (a + c) ≡ b → ⊥
    no_less c h = omega arith

    same : (c : ℕ) → b + c ≡ a → c ≡ d
    same c h = omega arith

pub sub-neg : (a b d : ℕ) → suc (a + d) ≡ b → sub_ℕ a b ≡ negsuc d
sub-neg a b d e = sub_cases (λ z. z ≡ negsuc d) a b (λ c h. ap negsuc (same c h)) (λ c h. absurd (no_more c h))
  where
    no_more : (c : ℕ) → b + c ≡ a → ⊥
    no_more c h = omega arith

    same : (c : ℕ) → suc (a + c) ≡ b → c ≡ d
    same c h = omega arith

-- a ≤ b exactly when b is a and something
≤-gap' : (a b : ℤ) → T (le_z a b) → (n : ℕ) × (b ≡ a +ℤ pos n)
≤-gap' (pos a) (pos b) t = (b - a, ap pos (fits (leb→le a b t)))
  where
    fits : a ≤ b → b ≡ a + (b - a)
    fits h = omega arith
≤-gap' (pos a) (negsuc b) t = absurd t
≤-gap' (negsuc a) (pos b) t = (suc a + b, sym (sub-pos (suc a + b) (suc a) b refl))
≤-gap' (negsuc a) (negsuc b) t = (a - b, sym (sub-neg (a - b) (suc a) b (fits (leb→le b a t))))
  where
    fits : b ≤ a → suc (a - b + b) ≡ suc a
    fits h = omega arith

pub ≤-gap : {a b : ℤ} → a ≤ℤ b → (n : ℕ) × (b ≡ a +ℤ pos n)
≤-gap {a} {b} h = ≤-gap' a b h.le

pub ≤-add : (a : ℤ) (n : ℕ) → a ≤ℤ (a +ℤ pos n)
≤-add (pos a) n = le_z_yes (le→leb a (a + n) (omega arith))
≤-add (negsuc a) n = le_z_yes (sub_cases (λ z. T (le_z (negsuc a) z)) n (suc a) (λ d e. le→leb d a (omega arith)) (λ d e. tt))

pub ≤-by : {a b : ℤ} (n : ℕ) → b ≡ a +ℤ pos n → a ≤ℤ b
≤-by {a} n e = subst (λ x. a ≤ℤ x) (sym e) (≤-add a n)

pub square≥0 : (a : ℤ) → pos 0 ≤ℤ (a *ℤ a)
square≥0 (pos a) = le_z_yes (le→leb 0 (a * a) (omega arith))
square≥0 (negsuc a) = le_z_yes (le→leb 0 (suc a * suc a) (omega arith))
