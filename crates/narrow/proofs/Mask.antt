-- 32-bit words as the machine has them, and the mask of such a word's sign, 0 or -1: `(a ^ mask) - mask` is a, or its negative.
-- Assumes nothing.
use Prim.Native.Nat.{ℕ, zero, suc, ◌-◌, ◌^◌, ◌<◌}
use native.Mathlib.Omega.{arith}
use native.Mathlib.Nat.{mod-eq_of_lt, div-eq_of_lt}
use mathlib.Core.Path.{◌≡◌, refl, ap, ◌∙◌}
use mathlib.Core.Bool.{Bool, true, false}
use lib.Dec.{lit<}
use lib.IntN.{ℤ, pos, negsuc, neg_ℤ, suc_ℤ, ◌+ℤ◌, ◌-ℤ◌, +ℤ_idr, +ℤ_one, neg_ℤ-neg_ℤ}
use lib.Bits.{bit_xor, xor_zero_r, xor_add_and, and_mask}
use lib.Signed.{lt_z, non_neg, shr_z}
use borrow.Author.Tests.{le-ltb}
use mir.Syntax.{w32, w64}
use mir.Val.{SFits, to_z, of_z}
use mir.Facts.{to_z-of_z, to_z_pos, to_z-neg, sfits_widen}
use Rattle.integers.specs.Within.{Within}
use Rattle.integers.proofs.Within.{within_neg, within_fits}
use Rattle.integers.proofs.Floor.{shr_abs}
use Rattle.cordic.specs.Norm.{most}
use Rattle.cordic.specs.declared.Pair.{Pair}
use Rattle.cordic.specs.MicroRotation.{oriented, micro_rotation_of}

-- ---- 32-bit words

-- a number as the machine reads it back from its 32 bits
abbrev pub read : ℤ → ℤ
read z = to_z w32 (of_z w32 z)

pub fits : {z : ℤ} → Within z most → SFits w32 z
fits {z} h = within_fits w32 z h (lit< tt)

pub back : {z : ℤ} → Within z most → read z ≡ z
back h = to_z-of_z (fits h)

-- a 32-bit word is a 64-bit word too
pub wide : {z : ℤ} → SFits w32 z → SFits w64 z
wide f = sfits_widen tt f

-- ---- the mask

-- all 32 digits turned over
ones : (n : ℕ) → n < 2 ^ 32 → bit_xor n (2 ^ 32 - 1) ≡ 2 ^ 32 - suc n
ones n h = omega (arith, xor_add_and n (2 ^ 32 - 1), and_mask n 32 ∙ mod-eq_of_lt h, h)

suc-neg : (n : ℕ) → suc_ℤ (negsuc n) ≡ neg_ℤ (pos n)
suc-neg zero = refl
suc-neg (suc n) = refl

with_ones : (a : ℤ) → Within a most → to_z w32 (bit_xor (of_z w32 a) (2 ^ 32 - 1)) +ℤ pos 1 ≡ neg_ℤ a
with_ones (pos n) h =
    ap (λ (x : ℕ). to_z w32 x +ℤ pos 1) (ones n (omega (arith, h.abs)))
    ∙ ap (λ (z : ℤ). z +ℤ pos 1) (to_z-neg w32 n (omega (arith, h.abs)))
    ∙ +ℤ_one (negsuc n)
    ∙ suc-neg n
with_ones (negsuc n) h =
    ap (λ (x : ℕ). to_z w32 x +ℤ pos 1) (ones (2 ^ 32 - suc n) (omega (arith, h.abs)) ∙ over)
    ∙ ap (λ (z : ℤ). z +ℤ pos 1) (to_z_pos w32 (omega (arith, h.abs)))
    ∙ +ℤ_one (pos n)
  where
    over : 2 ^ 32 - suc (2 ^ 32 - suc n) ≡ n
    over = omega (arith, h.abs)

with_zeros : (a : ℤ) → Within a most → to_z w32 (bit_xor (of_z w32 a) 0) +ℤ pos 0 ≡ a
with_zeros a h = +ℤ_idr (to_z w32 (bit_xor (of_z w32 a) 0)) ∙ ap (to_z w32) (xor_zero_r (of_z w32 a)) ∙ back h

-- the bits of the mask of s
abbrev pub mask_bits : ℤ → ℕ
mask_bits s = of_z w32 (shr_z (read s) (2 ^ 31))

-- what `(a ^ mask) - mask` is
abbrev pub masked : ℤ → ℤ → ℤ
masked s a = to_z w32 (bit_xor (of_z w32 a) (mask_bits s)) -ℤ to_z w32 (mask_bits s)

-- the mask is m
mask_of_lem : {s m : ℤ} (a : ℤ) → SFits w32 s → shr_z s (2 ^ 31) ≡ m → masked s a ≡ to_z w32 (bit_xor (of_z w32 a) (of_z w32 m)) -ℤ to_z w32 (of_z w32 m)
mask_of_lem a f e = ap (λ (z : ℤ). to_z w32 (bit_xor (of_z w32 a) (of_z w32 z)) -ℤ to_z w32 (of_z w32 z)) (ap (λ (z : ℤ). shr_z z (2 ^ 31)) (to_z-of_z f) ∙ e)

pub masked_is : (s a : ℤ) → SFits w32 s → Within a most → masked s a ≡ oriented (lt_z s (pos 0)) a
unfolding oriented
masked_is (pos n) a f h = mask_of_lem a f (ap pos (div-eq_of_lt f.sfits)) ∙ rw (le-ltb n 0 (omega arith)) (with_zeros a h)
masked_is (negsuc n) a f h = mask_of_lem a f (ap negsuc (div-eq_of_lt f.sfits)) ∙ with_ones a h

pub oriented_within : (b : Bool) {a : ℤ} {n : ℕ} → Within a n → Within (oriented b a) n
unfolding oriented
oriented_within true h = within_neg h
oriented_within false h = h

-- the word r that was answered for x, as the machine has both
pub oriented_is : (s : ℤ) {x y r : ℤ} → Within x most → y ≡ x → r ≡ oriented (lt_z s (pos 0)) y → read r ≡ oriented (lt_z s (pos 0)) x
oriented_is s h d e = ap read (e ∙ ap (oriented (lt_z s (pos 0))) d) ∙ back (oriented_within (lt_z s (pos 0)) h)

-- ---- a micro-rotation by a mask

-- a micro-rotation, in the direction of a word's sign: what is added to the upper word, and taken from the lower one
pub micro_rotation_by : (i : ℕ) (direction : ℤ) (p : Pair) → micro_rotation_of i (non_neg direction) p ≡ record { u = p.u +ℤ oriented (lt_z direction (pos 0)) (shr_z p.v (2 ^ i)); v = p.v -ℤ oriented (lt_z direction (pos 0)) (shr_z p.u (2 ^ i)) }
unfolding micro_rotation_of oriented
micro_rotation_by i (pos n) p = rw (le-ltb n 0 (omega arith))
micro_rotation_by i (negsuc n) p = rw (neg_ℤ-neg_ℤ (shr_z p.u (2 ^ i)))

-- a word shifted, as the machine has it
pub shifted_is : {a : ℤ} (m : ℕ) → Within a most → read (shr_z (read a) m) ≡ shr_z a m
shifted_is {a} m h = ap (λ (z : ℤ). read (shr_z z m)) (back h) ∙ back (shr_abs a m h)
