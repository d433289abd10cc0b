-- The leading column, whose lower word picks the direction of each micro-rotation. Where its upper word starts at zero or more, that word stays so, and the
-- lower word v is driven to zero: m |v| ≤ u + m i after micro-rotation i, which has m = 2 ^ i. After micro-rotation 27, |v| is at most 43.
-- Assumes nothing.
use mathlib.Core.Path.{◌≡◌, refl, sym, subst}
use Prim.Native.Nat.{ℕ, zero, suc, ◌+◌, ◌*◌, ◌^◌, ◌/◌, ◌≤◌}
use native.Mathlib.Nat.{mul-div-le, lt-mul-div-succ, pow-succ'}
use native.Mathlib.Omega.{arith}
use lib.Pow.{pow_pos}
use lib.IntN.{ℤ, pos, negsuc, nat_abs, sub_ℕ, ◌-ℤ◌}
use lib.Signed.{non_neg}
use Rattle.integers.specs.Within.{Within}
use Rattle.integers.proofs.Within.{within}
use Rattle.integers.proofs.Laws.{sub_cases}
use Rattle.cordic.specs.Norm.{Small, most}
use Rattle.cordic.specs.declared.Pair.{Pair}
use Rattle.cordic.specs.MicroRotation.{micro_rotation_of, micro_rotations, leading, sign}
use Rattle.cordic.proofs.Growth.{leading_is}

-- a micro-rotation by the column's own sign
abbrev own : ℕ → Pair → Pair
own i c = micro_rotation_of i (non_neg c.v) c

-- ---- m |a − b| from two orders
abs-sub-mul : (m a b x : ℕ) → m * a ≤ m * b + x → m * b ≤ m * a + x → m * nat_abs (sub_ℕ a b) ≤ x
abs-sub-mul m a b x p q = sub_cases (λ z. m * nat_abs z ≤ x) a b (λ d e. less d (rw (← e) at q)) (λ d e. more d (rw (← e) at p))
  where
    less : (d : ℕ) → m * suc (a + d) ≤ m * a + x → m * suc d ≤ x
    less d h = omega arith

    more : (d : ℕ) → m * (b + d) ≤ m * b + x → m * d ≤ x
    more d h = omega arith

abs-pos-pos : (m a b x : ℕ) → m * a ≤ m * b + x → m * b ≤ m * a + x → m * nat_abs (pos a -ℤ pos b) ≤ x
abs-pos-pos m a zero x p q = omega arith
abs-pos-pos m a (suc b) x p q = abs-sub-mul m a (suc b) x p q

-- ---- the invariant
pub record Lead (i : ℕ) (c : Pair) : Type 0 where
  pub upper : ℕ
  pub upper_is : c.u ≡ pos upper
  pub lower : 2 ^ i * nat_abs c.v ≤ upper + 2 ^ i * i

-- the first one, with m = 1
lead_first : (a : ℕ) (z : ℤ) → Lead 0 (own 0 (record { u = pos a; v = z }))
unfolding micro_rotation_of
lead_first a (pos b) = record { upper = a + b / 1; upper_is = refl; lower = abs-pos-pos 1 b (a / 1) (a + b / 1 + 1 * 0) (omega arith) (omega arith) }
lead_first a (negsuc b) = record { upper = a + suc (b / 1); upper_is = refl; lower = abs-sub-mul 1 (a / 1) (suc b) (a + suc (b / 1) + 1 * 0) (omega arith) (omega arith) }

-- a later one: from k = 2 ^ j to m = 2 k
module _ (j : ℕ) where
  double : 2 ^ suc j ≡ 2 * 2 ^ j
  double = pow-succ' 2 j

  later : (a : ℕ) (z : ℤ) → 2 ^ j * nat_abs z ≤ a + 2 ^ j * j → Lead (suc j) (own (suc j) (record { u = pos a; v = z }))
  unfolding micro_rotation_of
  later a (pos b) e = record {
    upper = a + b / 2 ^ suc j;
    upper_is = refl;
    lower = abs-pos-pos (2 ^ suc j) b (a / 2 ^ suc j) (a + b / 2 ^ suc j + 2 ^ suc j * suc j) (omega (arith, twice, lt-mul-div-succ a (pow_pos (suc j)))) (omega (arith, mul-div-le a (2 ^ suc j)));
  }
    where
      twice : 2 ^ suc j * b ≤ 2 * a + 2 ^ suc j * j
      twice = rw double (omega arith)
  later a (negsuc b) e = record {
    upper = a + suc (b / 2 ^ suc j);
    upper_is = refl;
    lower = abs-sub-mul (2 ^ suc j) (a / 2 ^ suc j) (suc b) (a + suc (b / 2 ^ suc j) + 2 ^ suc j * suc j) (omega (arith, mul-div-le a (2 ^ suc j))) (omega (arith, twice, lt-mul-div-succ a (pow_pos (suc j))));
  }
    where
      twice : 2 ^ suc j * suc b ≤ 2 * a + 2 ^ suc j * j
      twice = rw double (omega arith)

lead_steps : (n : ℕ) (p : Pair) (a : ℕ) → p.u ≡ pos a → Lead n (leading (suc n) p)
unfolding leading
lead_steps zero p a e = subst (λ x. Lead 0 (own 0 (record { u = x; v = p.v }))) (sym e) (lead_first a p.v)
lead_steps (suc n) p a e =
    let l = lead_steps n p a e in
    subst (λ x. Lead (suc n) (own (suc n) (record { u = x; v = (leading (suc n) p).v }))) (sym l.upper_is) (later n l.upper (leading (suc n) p).v l.lower)

-- all 28
pub lead_last : (p : Pair) (a : ℕ) → p.u ≡ pos a → Lead 27 (micro_rotations (sign p) 28 p)
lead_last p a e = rw (← leading_is 28 p) (lead_steps 27 p a e)

pub lead_rest : (c : Pair) → Lead 27 c → Small most c → Within c.v 43
lead_rest c l s = within (omega (arith, at_most, l.lower))
  where
    at_most : l.upper ≤ most
    at_most = rw l.upper_is at s.u.abs
