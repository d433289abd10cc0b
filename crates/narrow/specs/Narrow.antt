-- Only laws and the contracts of inner functions use this: where a rotation can be worked in 32-bit words, by the bound of u² + v² and its test, and the
-- law of such words. Assumes nothing.
use Rattle.std.specs.Prelude.{ℕ, ◌+◌, ◌≤◌, Bool, ◌||◌, List, ltb, leb, ℤ, pos, get_or}
use mathlib.Core.Path.{sym, subst}
use Rattle.lists.specs.Lists.{all_below}
use Rattle.integers.specs.Within.{Within}
use Rattle.integers.specs.Square.{square}
use Rattle.cordic.specs.Norm.{Small, dot, norm_bound, most}
use Rattle.cordic.specs.declared.Pair.{Pair}
use Rattle.cordic.specs.MicroRotation.{micro_rotations, oriented_pair}
use Rattle.cordic.proofs.Telescope.{near_small, kept_steps}
use Rattle.cordic.proofs.ColumnRotation.{orient_dot}
use Rattle.rows.specs.Lanes.{Both, Words32}

-- u² + v² of a column's words is at most 2^60 + 2^44
pub record Bounded (p : Pair) : Type 0 where
  pub norm : Within (dot p p) norm_bound

-- the test of column k of the part l, whose lower row begins `base` words on: u² + v² is within that bound, or k lies before column c
unfoldable pub norm_bounded : ℕ → ℕ → List ℤ → ℕ → Bool
norm_bounded base c l k = ltb k c || leb (square (get_or l k (pos 0)) + square (get_or l (base + k) (pos 0))) norm_bound

-- the test of every column from column c on
unfoldable pub norms_bounded_of : ℕ → ℕ → List ℤ → Bool
norms_bounded_of base c l = all_below 32 (norm_bounded base c l)

-- a word fits 32 bits, and so does its negative
abbrev pub Short : ℤ → Type 0
Short z = Within z most

-- such a column's words are that small before, between and after the 28 micro-rotations, by any signs
pub small_after : (s : ℕ → Bool) (p : Pair) → Bounded p → (n : ℕ) → n ≤ 28 → Small most (micro_rotations s n p)
small_after s p h n l = near_small n p (micro_rotations s n p) l h.norm (kept_steps p p h.norm h.norm s n l).cc

-- orienting the column does not change the bound
pub narrow_stays : (p : Pair) → Words32 p → Bounded p → (negate : Bool) (s : ℕ → Bool) (n : ℕ) → n ≤ 28 → Both Short (micro_rotations s n (oriented_pair negate p.u p.v))
narrow_stays p fit h negate s n few =
    let norm = subst (λ (x : ℤ). Within x norm_bound) (sym (orient_dot negate p p)) h.norm in
    let w = small_after s (oriented_pair negate p.u p.v) (record { norm = norm }) n few in
    record { u = w.u; v = w.v }
