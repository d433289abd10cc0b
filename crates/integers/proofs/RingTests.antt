-- The solver at work: a short identity, a large one, an equation from equations, and an order from orders.
-- Assumes nothing.
use mathlib.Core.Path.{◌≡◌}
use mathlib.Core.List.{[], ◌∷◌}
use lib.IntN.{ℤ, pos, ◌+ℤ◌, ◌-ℤ◌, ◌*ℤ◌}
use lib.Signed.{◌≤ℤ◌}
use Rattle.integers.proofs.Ring.{Expr, con, ◌⊕◌, ◌⊝◌, ◌⊗◌, ◌≐◌, ring, eqn, ◌⊢◌≐◌, combine, le, ◌⊢◌≼◌, lin}

pub square_of_sum : (a b : ℤ) → (a +ℤ b) *ℤ (a +ℤ b) ≡ a *ℤ a +ℤ pos 2 *ℤ (a *ℤ b) +ℤ b *ℤ b
square_of_sum a b = ring (a ∷ b ∷ []) (λ a b. (a ⊕ b) ⊗ (a ⊕ b) ≐ a ⊗ a ⊕ con (pos 2) ⊗ (a ⊗ b) ⊕ b ⊗ b) tt

-- Euler's four squares: 8 variables, 64 terms on the right before they are sorted
pub four_squares : (a b c d e f g h : ℤ) →
    (a *ℤ a +ℤ b *ℤ b +ℤ c *ℤ c +ℤ d *ℤ d) *ℤ (e *ℤ e +ℤ f *ℤ f +ℤ g *ℤ g +ℤ h *ℤ h)
    ≡ (a *ℤ e +ℤ b *ℤ f +ℤ c *ℤ g +ℤ d *ℤ h) *ℤ (a *ℤ e +ℤ b *ℤ f +ℤ c *ℤ g +ℤ d *ℤ h)
    +ℤ (a *ℤ f -ℤ b *ℤ e -ℤ c *ℤ h +ℤ d *ℤ g) *ℤ (a *ℤ f -ℤ b *ℤ e -ℤ c *ℤ h +ℤ d *ℤ g)
    +ℤ (a *ℤ g +ℤ b *ℤ h -ℤ c *ℤ e -ℤ d *ℤ f) *ℤ (a *ℤ g +ℤ b *ℤ h -ℤ c *ℤ e -ℤ d *ℤ f)
    +ℤ (a *ℤ h -ℤ b *ℤ g +ℤ c *ℤ f -ℤ d *ℤ e) *ℤ (a *ℤ h -ℤ b *ℤ g +ℤ c *ℤ f -ℤ d *ℤ e)
four_squares a b c d e f g h = ring (a ∷ b ∷ c ∷ d ∷ e ∷ f ∷ g ∷ h ∷ [])
    (λ a b c d e f g h. (sq a ⊕ sq b ⊕ sq c ⊕ sq d) ⊗ (sq e ⊕ sq f ⊕ sq g ⊕ sq h)
    ≐ sq (a ⊗ e ⊕ b ⊗ f ⊕ c ⊗ g ⊕ d ⊗ h) ⊕ sq (a ⊗ f ⊝ b ⊗ e ⊝ c ⊗ h ⊕ d ⊗ g)
    ⊕ sq (a ⊗ g ⊕ b ⊗ h ⊝ c ⊗ e ⊝ d ⊗ f) ⊕ sq (a ⊗ h ⊝ b ⊗ g ⊕ c ⊗ f ⊝ d ⊗ e)) tt
  where
    sq : Expr → Expr
    sq x = x ⊗ x

-- an equation from two equations, each used a polynomial number of times
pub product_of_equals : (a b c d : ℤ) → a ≡ b → c ≡ d → a *ℤ c ≡ b *ℤ d
product_of_equals a b c d p q = combine (a ∷ b ∷ c ∷ d ∷ []) (λ a b c d. eqn c a b ∷ eqn b c d ∷ [] ⊢ a ⊗ c ≐ b ⊗ d) tt (p, (q, tt))

-- 2 a + 1 ≤ 2 c + 3 d + 3 from a ≤ b, b ≤ c and 0 ≤ d
pub order_of_orders : (a b c d : ℤ) → a ≤ℤ b → b ≤ℤ c → pos 0 ≤ℤ d → (pos 2 *ℤ a +ℤ pos 1) ≤ℤ (pos 2 *ℤ c +ℤ pos 3 *ℤ d +ℤ pos 3)
order_of_orders a b c d p q r = lin (a ∷ b ∷ c ∷ d ∷ [])
    (λ a b c d. le 2 a b ∷ le 2 b c ∷ le 3 (con (pos 0)) d ∷ [] ⊢ con (pos 2) ⊗ a ⊕ con (pos 1) ≼ con (pos 2) ⊗ c ⊕ con (pos 3) ⊗ d ⊕ con (pos 3)) tt (p, (q, (r, tt)))
