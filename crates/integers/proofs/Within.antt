-- Laws of `Within`: bounds go with sums and products by their shape, and a chain of differences adds up. Assumes nothing.
use mathlib.Core.Path.{◌≡◌, ap}
use mathlib.Core.Bool.{true}
use mathlib.Core.List.{[], ◌∷◌}
use Prim.Native.Nat.{ℕ, zero, suc, ◌+◌, ◌*◌, ◌^◌, ◌≤◌, ◌<◌}
use native.Mathlib.Nat.{le_refl, le_trans, le_of_eq, lt_of_le_of_lt, mul-le-mul, add-le-add}
use native.Mathlib.Omega.{arith}
use borrow.Author.Tests.{leb-true, le-leb}
use lib.IntN.{ℤ, pos, negsuc, neg_ℤ, nat_abs, ◌+ℤ◌, ◌-ℤ◌, ◌*ℤ◌, +ℤ_invr}
use lib.Signed.{nat_abs-le}
use mir.Syntax.{Width}
use mir.Val.{SFits, hbits}
use Rattle.integers.specs.Within.{Within, is_within}
use Rattle.integers.proofs.Laws.{abs_neg, abs-*, abs-+, abs-sub_le}
use Rattle.integers.proofs.Ring.{◌⊕◌, ◌⊝◌, neg, ◌≐◌, ring}

pub within : {x : ℤ} {n : ℕ} → nat_abs x ≤ n → Within x n
within h = record { abs = h }

-- the test and what it says
pub within_if : (x : ℤ) (n : ℕ) → is_within x n ≡ true → Within x n
unfolding is_within
within_if x n e = within (leb-true (nat_abs x) n e)

pub if_within : {x : ℤ} {n : ℕ} → Within x n → is_within x n ≡ true
unfolding is_within
if_within {x} {n} h = le-leb (nat_abs x) n h.abs

pub within-+ : {x y : ℤ} {m n : ℕ} → Within x m → Within y n → Within (x +ℤ y) (m + n)
within-+ {x} {y} h k = within (le_trans (abs-+ x y) (add-le-add h.abs k.abs))

pub within_neg : {x : ℤ} {m : ℕ} → Within x m → Within (neg_ℤ x) m
within_neg {x} h = within (rw (abs_neg x) h.abs)

pub within-- : {x y : ℤ} {m n : ℕ} → Within x m → Within y n → Within (x -ℤ y) (m + n)
within-- h k = within-+ h (within_neg k)

pub within-* : {x y : ℤ} {m n : ℕ} → Within x m → Within y n → Within (x *ℤ y) (m * n)
within-* {x} {y} h k = within (rw (abs-* x y) (mul-le-mul h.abs k.abs))

pub within_pos : (n : ℕ) → Within (pos n) n
within_pos n = within (le_refl n)

-- the number rewritten by an equation, the bound by an order
pub within_as : {x y : ℤ} {m n : ℕ} → Within x m → y ≡ x → m ≤ n → Within y n
within_as {n} h e k = within (rw e (le_trans h.abs k))

-- ---- differences
pub within_refl : (x : ℤ) → Within (x -ℤ x) 0
within_refl x = within (le_of_eq (ap nat_abs (+ℤ_invr x)))

pub within_trans : (x y z : ℤ) {a b : ℕ} → Within (x -ℤ y) a → Within (y -ℤ z) b → Within (x -ℤ z) (a + b)
within_trans x y z {a} {b} h k = within_as (within-+ h k) (ring (x ∷ y ∷ z ∷ []) (λ x y z. x ⊝ z ≐ (x ⊝ y) ⊕ (y ⊝ z)) tt) (le_refl (a + b))

pub within_swap : (x y : ℤ) {b : ℕ} → Within (x -ℤ y) b → Within (y -ℤ x) b
within_swap x y {b} h = within_as (within_neg h) (ring (x ∷ y ∷ []) (λ x y. y ⊝ x ≐ neg (x ⊝ y)) tt) (le_refl b)

-- the same number added to both
pub within_common : (s x y : ℤ) {b : ℕ} → Within (x -ℤ y) b → Within ((s +ℤ x) -ℤ (s +ℤ y)) b
within_common s x y {b} h = within_as h (ring (s ∷ x ∷ y ∷ []) (λ s x y. (s ⊕ x) ⊝ (s ⊕ y) ≐ x ⊝ y) tt) (le_refl b)

pub within_le : {x : ℤ} {a b : ℕ} → Within x a → a ≤ b → Within x b
within_le h k = within (le_trans h.abs k)

-- what lies within b of y is at most |y| + b
pub within_abs : (x y : ℤ) {b : ℕ} → Within (x -ℤ y) b → nat_abs x ≤ nat_abs y + b
within_abs x y {b} h =
    let w = within_as (within-+ (within {x = y} (le_refl (nat_abs y))) h) (ring (x ∷ y ∷ []) (λ x y. x ≐ y ⊕ (x ⊝ y)) tt) (le_refl (nat_abs y + b)) in
    w.abs

pub within_difference : (a b : ℕ) {k : ℕ} → a ≤ b + k → b ≤ a + k → Within (pos a -ℤ pos b) k
within_difference a zero p q = within (omega arith)
within_difference a (suc b) {k} p q = within (abs-sub_le a (suc b) k p q)

-- ---- a range of a signed width
pub within_fits : (w : Width) (z : ℤ) {n : ℕ} → Within z n → n < 2 ^ hbits w → SFits w z
within_fits w (pos a) h k = record { sfits = lt_of_le_of_lt h.abs k }
within_fits w (negsuc a) h k = record { sfits = omega (arith, h.abs, k) }

pub fits_within : {w : Width} {z : ℤ} → SFits w z → Within z (2 ^ hbits w)
fits_within {w} {z} f = within (nat_abs-le z f.sfits)
