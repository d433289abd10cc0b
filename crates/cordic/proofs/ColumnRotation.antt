-- One whole rotation of a column by a leading one: 1. both are negated where the upper leading word is negative; 2. the 28 micro-rotations, by the signs of
-- the lower leading word; 3. each word is scaled back; 4. the lower leading word is set to 0.
-- `rotation_dot`: the dot product of any two columns is kept within 2 ^ 37, where each has u² + v² of at most 2 ^ 60 + 2 ^ 44.
-- `rotation_upper`: the upper leading word is then at least 0. `rotation_words`: each word is then within 2 · 652032874, so within 32 bits.
-- Assumes nothing.
use mathlib.Core.Path.{◌≡◌, refl, sym, subst}
use mathlib.Core.List.{[], ◌∷◌}
use mathlib.Core.Bool.{Bool, true, false}
use Prim.Native.Nat.{ℕ, ◌*◌, ◌^◌}
use native.Mathlib.Nat.{le_refl, mul_comm, le_of_eq}
use native.Mathlib.Omega.{arith}
use lib.Dec.{T, lit≤}
use borrow.Author.Tests.{le-ltb}
use lib.IntN.{ℤ, pos, negsuc, nat_abs, ◌-ℤ◌}
use lib.Signed.{non_neg, lt_z}
use Rattle.cordic.specs.Norm.{dot, Small, most, norm_bound}
use Rattle.cordic.specs.declared.Pair.{Pair}
use Rattle.cordic.specs.Word.{gain, scaled}
use Rattle.cordic.specs.MicroRotation.{oriented, micro_rotations, sign, oriented_pair}
use Rattle.integers.specs.Within.{Within}
use Rattle.integers.proofs.Within.{within-*, within_neg, within_pos, within_as, within_trans, within_le}
use Rattle.integers.proofs.Ring.{con, neg, ◌⊕◌, ◌⊝◌, ◌⊗◌, ◌≐◌, ring}
use Rattle.cordic.proofs.Telescope.{StepsKept, kept_steps, near_small}
use Rattle.cordic.proofs.Residue.{Lead, lead_last, lead_rest}
use Rattle.cordic.proofs.Scale.{scaled_pair, scaled_small, scaled-rest, scaled-dot, dot-small}

-- ---- what is computed
abbrev pub orient : Bool → Pair → Pair
orient negate p = oriented_pair negate p.u p.v

-- 1. and 2. of the column c, with l the leading column
abbrev pub micro_rotated : Pair → Pair → Pair
micro_rotated l c = micro_rotations (sign (orient (lt_z l.u (pos 0)) l)) 28 (orient (lt_z l.u (pos 0)) c)

-- 3.
abbrev pub rotated_pair : Pair → Pair → Pair
rotated_pair l c = scaled_pair (micro_rotated l c)

-- 4., for the leading column
abbrev pub zeroed : Bool → Pair → Pair
zeroed true c = record { u = c.u; v = pos 0 }
zeroed false c = c

-- ---- 1. keeps each dot product
pub orient_dot : (b : Bool) (c d : Pair) → dot (orient b c) (orient b d) ≡ dot c d
unfolding oriented_pair oriented
orient_dot true c d = ring (c.u ∷ c.v ∷ d.u ∷ d.v ∷ []) (λ x y z w. neg x ⊗ neg z ⊕ neg y ⊗ neg w ≐ x ⊗ z ⊕ y ⊗ w) tt
orient_dot false c d = refl

orient_upper : (x y : ℤ) → (oriented_pair (lt_z x (pos 0)) x y).u ≡ pos (nat_abs x)
unfolding oriented_pair oriented
orient_upper (pos n) y = rw (le-ltb n 0 (omega arith))
orient_upper (negsuc n) y = refl

-- ---- 2. and 3.
module _ (l : Pair) where
  negate : Bool
  negate = lt_z l.u (pos 0)

  orient_start : (c : Pair) → Within (dot c c) norm_bound → Within (dot (orient negate c) (orient negate c)) norm_bound
  orient_start c h = subst (λ x. Within x norm_bound) (sym (orient_dot negate c c)) h

  rotated-kept : (c d : Pair) → Within (dot c c) norm_bound → Within (dot d d) norm_bound → StepsKept (orient negate c) (orient negate d) 28 (micro_rotated l c) (micro_rotated l d)
  unfolding negate
  rotated-kept c d nc nd = kept_steps (orient negate c) (orient negate d) (orient_start c nc) (orient_start d nd) (sign (orient negate l)) 28 (le_refl 28)

  rotated-small : (c : Pair) → Within (dot c c) norm_bound → Small most (micro_rotated l c)
  rotated-small c n = near_small 28 (orient negate c) (micro_rotated l c) (le_refl 28) (orient_start c n) (rotated-kept c c n n).cc

  rotated_lead : Lead 27 (micro_rotated l l)
  unfolding negate
  rotated_lead = lead_last (orient negate l) (nat_abs l.u) (orient_upper l.u l.v)

  pub rotation_words : (c : Pair) → Within (dot c c) norm_bound → Small (2 * gain) (rotated_pair l c)
  rotation_words c n = scaled_small (micro_rotated l c) (rotated-small c n)

  pub rotation_upper : T (non_neg (rotated_pair l l).u)
  unfolding scaled
  rotation_upper = subst (λ x. T (non_neg (scaled x))) (sym rotated_lead.upper_is) tt

  rotation_rest : Within (dot l l) norm_bound → Within (rotated_pair l l).v 26
  rotation_rest n = scaled-rest (micro_rotated l l).v (lead_rest (micro_rotated l l) rotated_lead (rotated-small l n))

  rotated-dot : (c d : Pair) → Within (dot c c) norm_bound → Within (dot d d) norm_bound → Within (dot (rotated_pair l c) (rotated_pair l d) -ℤ dot c d) (11 * 2 ^ 33)
  rotated-dot c d nc nd =
      subst (λ x. Within (dot (rotated_pair l c) (rotated_pair l d) -ℤ x) (11 * 2 ^ 33)) (orient_dot negate c d)
      (scaled-dot (dot (orient negate c) (orient negate d)) (micro_rotated l c) (micro_rotated l d) (dot-small (orient negate c) (orient negate d) norm_bound (orient_start c nc) (orient_start d nd))
      (rotated-small c nc) (rotated-small d nd) (rotated-kept c d nc nd).cd)

-- ---- 4. changes a dot product by what the lower words come to
module _ (c d : Pair) (A B : ℕ) (sc : Small B c) (sd : Small B d) where
  zeroed_dot : (p q : Bool) → (T p → Within c.v A) → (T q → Within d.v A) → Within (dot (zeroed p c) (zeroed q d) -ℤ dot c d) (A * B)
  zeroed_dot true true f h = within_as (within_neg (within-* (f tt) sd.v))
      (ring (c.u ∷ c.v ∷ d.u ∷ d.v ∷ []) (λ x y z w. x ⊗ z ⊕ con (pos 0) ⊗ con (pos 0) ⊝ (x ⊗ z ⊕ y ⊗ w) ≐ neg (y ⊗ w)) tt) (le_refl (A * B))
  zeroed_dot true false f h = within_as (within_neg (within-* (f tt) sd.v))
      (ring (c.u ∷ c.v ∷ d.u ∷ d.v ∷ []) (λ x y z w. x ⊗ z ⊕ con (pos 0) ⊗ w ⊝ (x ⊗ z ⊕ y ⊗ w) ≐ neg (y ⊗ w)) tt) (le_refl (A * B))
  zeroed_dot false true f h = within_as (within_neg (within-* sc.v (h tt)))
      (ring (c.u ∷ c.v ∷ d.u ∷ d.v ∷ []) (λ x y z w. x ⊗ z ⊕ y ⊗ con (pos 0) ⊝ (x ⊗ z ⊕ y ⊗ w) ≐ neg (y ⊗ w)) tt) (le_of_eq (mul_comm B A))
  zeroed_dot false false f h = within_as (within_pos 0)
      (ring (c.u ∷ c.v ∷ d.u ∷ d.v ∷ []) (λ x y z w. x ⊗ z ⊕ y ⊗ w ⊝ (x ⊗ z ⊕ y ⊗ w) ≐ con (pos 0)) tt) (omega arith)

-- ---- the rotation. p and q say whether c and d are the leading column, whose lower word is set to 0
pub rotation_dot : (l c d : Pair) (p q : Bool) → (T p → c ≡ l) → (T q → d ≡ l) → Within (dot c c) norm_bound → Within (dot d d) norm_bound
    → Within (dot (zeroed p (rotated_pair l c)) (zeroed q (rotated_pair l d)) -ℤ dot c d) (2 ^ 37)
rotation_dot l c d p q pc qd nc nd = within_le
    (within_trans (dot (zeroed p (rotated_pair l c)) (zeroed q (rotated_pair l d))) (dot (rotated_pair l c) (rotated_pair l d)) (dot c d)
    (zeroed_dot (rotated_pair l c) (rotated_pair l d) 26 (2 * gain) (rotation_words l c nc) (rotation_words l d nd) p q (λ t. rest c nc (pc t)) (λ t. rest d nd (qd t))) (rotated-dot l c d nc nd))
    (lit≤ tt)
  where
    rest : (c : Pair) → Within (dot c c) norm_bound → c ≡ l → Within (rotated_pair l c).v 26
    rest c n e = subst (λ x. Within (rotated_pair l x).v 26) (sym e) (rotation_rest l (subst (λ x. Within (dot x x) norm_bound) e n))
