-- A signed shift to the right rounds down. Assumes nothing.
use mathlib.Core.Path.{◌≡◌, sym, ◌∙◌, ap}
use Prim.Native.Nat.{ℕ, suc, ◌+◌, ◌*◌, ◌-◌, ◌/◌, ◌%◌, ◌<◌}
use native.Mathlib.Nat.{div-add-mod, mod-lt, le_trans, div-le_self}
use native.Mathlib.Omega.{arith}
use lib.IntN.{ℤ, pos, negsuc, neg_ℤ, ◌+ℤ◌, ◌*ℤ◌}
use lib.Signed.{shr_z}
use Rattle.integers.specs.Within.{Within}
use Rattle.integers.proofs.Within.{within}
use Rattle.integers.proofs.Order.{sub-neg}

-- z = m ⌊z / m⌋ + r, and r is below m
pub record Floor (m : ℕ) (z : ℤ) : Type 0 where
  pub rest : ℕ
  pub below : rest < m
  pub split : z ≡ pos m *ℤ shr_z z m +ℤ pos rest

pub floor : (m : ℕ) → 0 < m → (z : ℤ) → Floor m z
floor m h (pos a) = record { rest = a % m; below = mod-lt a h; split = ap pos (sym (div-add-mod a m)) }
floor m h (negsuc a) = record { rest = r; below = omega (arith, mod-lt a h); split = sym (ap (λ x. neg_ℤ (pos x) +ℤ pos r) whole ∙ sub-neg r (suc (a + r)) a (omega arith)) }
  where
    r : ℕ
    r = m - suc (a % m)

    whole : m * suc (a / m) ≡ suc (a + (m - suc (a % m)))
    whole = omega (arith, mod-lt a h, div-add-mod a m)

-- it does not lengthen a number
pub shr_abs : (z : ℤ) (m : ℕ) {M : ℕ} → Within z M → Within (shr_z z m) M
shr_abs (pos a) m h = within (le_trans (div-le_self a m) h.abs)
shr_abs (negsuc a) m h = within (omega (arith, div-le_self a m, h.abs))
