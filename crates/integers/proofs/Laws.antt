-- The laws of ℤ that `lib.IntN` leaves out: the product is associative and distributes over the sum, a sign moves out of a product,
-- and the absolute value of a sum, a product and a difference.
-- Assumes nothing.
use mathlib.Core.Path.{◌≡◌, refl, sym, ◌∙◌, ap, ap₂}
use mathlib.Core.Bool.{Bool, true, false, not, cond}
use Prim.Native.Nat.{ℕ, zero, suc, ◌+◌, ◌*◌, ◌-◌, ◌<◌, ◌≤◌}
use native.Mathlib.Nat.{le_refl}
use native.Mathlib.Omega.{arith}
use lib.Dec.{T, ltb, ltb→lt, nltb→le}
use lib.IntN.{ℤ, pos, negsuc, pred_ℤ, neg_ℤ, nat_abs, sub_ℕ, ◌+ℤ◌, ◌-ℤ◌, ◌*ℤ◌}
use lib.IntN.{+ℤ_idl, +ℤ_assoc, +ℤ_comm, +ℤ_invl, +ℤ-neg_ℤ_cancel, neg_ℤ-neg_ℤ}
use Rattle.integers.specs.Square.{square}
use lib.IntN.{suc_ℤ-+ℤ, pred_ℤ-+ℤ, suc_ℤ-*ℤ, pred_ℤ-*ℤ, zero-*ℤ, *ℤ_comm}

-- ---- sums of three and four
pub swap_right : (a b c : ℤ) → (a +ℤ b) +ℤ c ≡ (a +ℤ c) +ℤ b
swap_right a b c = +ℤ_assoc a b c ∙ ap (λ x. a +ℤ x) (+ℤ_comm b c) ∙ sym (+ℤ_assoc a c b)

pub swap_left : (a b c : ℤ) → a +ℤ (b +ℤ c) ≡ b +ℤ (a +ℤ c)
swap_left a b c = sym (+ℤ_assoc a b c) ∙ ap (λ x. x +ℤ c) (+ℤ_comm a b) ∙ +ℤ_assoc b a c

-- ---- the product
pub *ℤ-distr : (a b c : ℤ) → (a +ℤ b) *ℤ c ≡ a *ℤ c +ℤ b *ℤ c
*ℤ-distr (pos zero) b c = ap (λ x. x *ℤ c) (+ℤ_idl b) ∙ sym (ap (λ x. x +ℤ b *ℤ c) (zero-*ℤ c) ∙ +ℤ_idl (b *ℤ c))
*ℤ-distr (pos (suc n)) b c =
    ap (λ x. x *ℤ c) (suc_ℤ-+ℤ (pos n) b) ∙ suc_ℤ-*ℤ (pos n +ℤ b) c ∙ ap (λ x. x +ℤ c) (*ℤ-distr (pos n) b c)
    ∙ swap_right (pos n *ℤ c) (b *ℤ c) c ∙ ap (λ x. x +ℤ b *ℤ c) (sym (suc_ℤ-*ℤ (pos n) c))
*ℤ-distr (negsuc zero) b c =
    ap (λ x. x *ℤ c) (pred_ℤ-+ℤ (pos zero) b ∙ ap pred_ℤ (+ℤ_idl b)) ∙ pred_ℤ-*ℤ b c ∙ +ℤ_comm (b *ℤ c) (neg_ℤ c)
    ∙ ap (λ x. x +ℤ b *ℤ c) (sym (pred_ℤ-*ℤ (pos zero) c ∙ ap (λ x. x +ℤ neg_ℤ c) (zero-*ℤ c) ∙ +ℤ_idl (neg_ℤ c)))
*ℤ-distr (negsuc (suc n)) b c =
    ap (λ x. x *ℤ c) (pred_ℤ-+ℤ (negsuc n) b) ∙ pred_ℤ-*ℤ (negsuc n +ℤ b) c ∙ ap (λ x. x +ℤ neg_ℤ c) (*ℤ-distr (negsuc n) b c)
    ∙ swap_right (negsuc n *ℤ c) (b *ℤ c) (neg_ℤ c) ∙ ap (λ x. x +ℤ b *ℤ c) (sym (pred_ℤ-*ℤ (negsuc n) c))

pub *ℤ-distl : (a b c : ℤ) → a *ℤ (b +ℤ c) ≡ a *ℤ b +ℤ a *ℤ c
*ℤ-distl a b c = *ℤ_comm a (b +ℤ c) ∙ *ℤ-distr b c a ∙ ap₂ (λ x y. x +ℤ y) (*ℤ_comm b a) (*ℤ_comm c a)

-- what adds up to zero is the negative
pub neg_unique : (a b : ℤ) → a +ℤ b ≡ pos zero → a ≡ neg_ℤ b
neg_unique a b e = sym (+ℤ-neg_ℤ_cancel a b) ∙ ap (λ x. x +ℤ neg_ℤ b) e ∙ +ℤ_idl (neg_ℤ b)

pub neg-*ℤ : (a b : ℤ) → neg_ℤ a *ℤ b ≡ neg_ℤ (a *ℤ b)
neg-*ℤ a b = neg_unique (neg_ℤ a *ℤ b) (a *ℤ b) (sym (*ℤ-distr (neg_ℤ a) a b) ∙ ap (λ x. x *ℤ b) (+ℤ_invl a) ∙ zero-*ℤ b)

pub *ℤ-assoc : (a b c : ℤ) → (a *ℤ b) *ℤ c ≡ a *ℤ (b *ℤ c)
*ℤ-assoc (pos zero) b c = ap (λ x. x *ℤ c) (zero-*ℤ b) ∙ zero-*ℤ c ∙ sym (zero-*ℤ (b *ℤ c))
*ℤ-assoc (pos (suc n)) b c =
    ap (λ x. x *ℤ c) (suc_ℤ-*ℤ (pos n) b) ∙ *ℤ-distr (pos n *ℤ b) b c ∙ ap (λ x. x +ℤ b *ℤ c) (*ℤ-assoc (pos n) b c)
    ∙ sym (suc_ℤ-*ℤ (pos n) (b *ℤ c))
*ℤ-assoc (negsuc zero) b c =
    ap (λ x. x *ℤ c) (neg-*ℤ (pos 1) b ∙ ap neg_ℤ (one-* b)) ∙ neg-*ℤ b c ∙ sym (neg-*ℤ (pos 1) (b *ℤ c) ∙ ap neg_ℤ (one-* (b *ℤ c)))
  where
    one-* : (x : ℤ) → pos 1 *ℤ x ≡ x
    one-* x = suc_ℤ-*ℤ (pos zero) x ∙ ap (λ y. y +ℤ x) (zero-*ℤ x) ∙ +ℤ_idl x
*ℤ-assoc (negsuc (suc n)) b c =
    ap (λ x. x *ℤ c) (pred_ℤ-*ℤ (negsuc n) b) ∙ *ℤ-distr (negsuc n *ℤ b) (neg_ℤ b) c
    ∙ ap₂ (λ x y. x +ℤ y) (*ℤ-assoc (negsuc n) b c) (neg-*ℤ b c) ∙ sym (pred_ℤ-*ℤ (negsuc n) (b *ℤ c))

pub one-*ℤ : (x : ℤ) → pos 1 *ℤ x ≡ x
one-*ℤ x = suc_ℤ-*ℤ (pos zero) x ∙ ap (λ y. y +ℤ x) (zero-*ℤ x) ∙ +ℤ_idl x

pub swap_mul : (a b c : ℤ) → a *ℤ (b *ℤ c) ≡ b *ℤ (a *ℤ c)
swap_mul a b c = sym (*ℤ-assoc a b c) ∙ ap (λ x. x *ℤ c) (*ℤ_comm a b) ∙ *ℤ-assoc b a c

pub swap_inner_mul : (a b c d : ℤ) → (a *ℤ b) *ℤ (c *ℤ d) ≡ (a *ℤ c) *ℤ (b *ℤ d)
swap_inner_mul a b c d = *ℤ-assoc a b (c *ℤ d) ∙ ap (λ x. a *ℤ x) (swap_mul b c d) ∙ sym (*ℤ-assoc a c (b *ℤ d))

-- a difference of zero
pub eq_of_sub : (a b : ℤ) → a -ℤ b ≡ pos zero → a ≡ b
eq_of_sub a b e = neg_unique a (neg_ℤ b) e ∙ neg_ℤ-neg_ℤ b

-- ---- the absolute value
pub abs-zero : (x : ℤ) → nat_abs x ≡ 0 → x ≡ pos 0
abs-zero (pos n) e = ap pos e
abs-zero (negsuc n) e = absurd (omega arith)

pub abs_neg : (x : ℤ) → nat_abs (neg_ℤ x) ≡ nat_abs x
abs_neg (pos zero) = refl
abs_neg (pos (suc n)) = refl
abs_neg (negsuc n) = refl

pub abs-* : (x y : ℤ) → nat_abs (x *ℤ y) ≡ nat_abs x * nat_abs y
abs-* (pos a) (pos b) = refl
abs-* (pos a) (negsuc b) = abs_neg (pos (a * suc b))
abs-* (negsuc a) (pos b) = abs_neg (pos (suc a * b))
abs-* (negsuc a) (negsuc b) = refl

-- the two cases of a − b
pub sub_cases {ℓ} : (P : ℤ → Type ℓ) (a b : ℕ) → ((d : ℕ) → suc (a + d) ≡ b → P (negsuc d)) → ((d : ℕ) → b + d ≡ a → P (pos d)) → P (sub_ℕ a b)
sub_cases P a b f g = go (ltb a b) (λ t. ltb→lt a b t) (λ t. nltb→le a b t)
  where
    go : (c : Bool) → (T c → a < b) → (T (not c) → b ≤ a) → P (cond c (negsuc (b - suc a)) (pos (a - b)))
    go true l r = f (b - suc a) (less (l tt))
      where
        less : a < b → suc (a + (b - suc a)) ≡ b
        less h = omega arith
    go false l r = g (a - b) (more (r tt))
      where
        more : b ≤ a → b + (a - b) ≡ a
        more h = omega arith

pub abs-sub_le : (a b k : ℕ) → a ≤ b + k → b ≤ a + k → nat_abs (sub_ℕ a b) ≤ k
abs-sub_le a b k p q = sub_cases (λ z. nat_abs z ≤ k) a b (λ d e. omega arith) (λ d e. omega arith)

pub abs-+ : (x y : ℤ) → nat_abs (x +ℤ y) ≤ nat_abs x + nat_abs y
abs-+ (pos a) (pos b) = le_refl (a + b)
abs-+ (pos a) (negsuc b) = abs-sub_le a (suc b) (a + suc b) (omega arith) (omega arith)
abs-+ (negsuc a) (pos b) = abs-sub_le b (suc a) (suc a + b) (omega arith) (omega arith)
abs-+ (negsuc a) (negsuc b) = omega arith

-- ---- squares
pub square_is : (x : ℤ) → x *ℤ x ≡ pos (square x)
square_is (pos a) = refl
square_is (negsuc a) = refl

pub abs_squares : (x y : ℤ) → nat_abs (x *ℤ x +ℤ y *ℤ y) ≡ square x + square y
abs_squares (pos a) (pos b) = refl
abs_squares (pos a) (negsuc b) = refl
abs_squares (negsuc a) (pos b) = refl
abs_squares (negsuc a) (negsuc b) = refl
