-- The micro-rotations in a row, with m = 1, 2, 4, .. , 2 ^ 27. The dot product of two columns grows by stretched / shrunk, the product of all 1 + 1 / m²,
-- but for an error that adds up; and the words of a column that starts short enough stay within 2 ^ 31 - 1, so within 32 bits, all the way.
-- Assumes nothing.
use mathlib.Core.Path.{◌≡◌, refl, sym, subst}
use mathlib.Core.List.{[], ◌∷◌}
use mathlib.Core.Bool.{Bool, true, false, not}
use Prim.Native.Nat.{ℕ, zero, suc, ◌+◌, ◌*◌, ◌^◌, ◌≤◌, ◌<◌}
use native.Mathlib.Nat.{le_refl, mul-pos, mul-le-mul, le_of_mul-le-mul_left, le_of_lt}
use native.Mathlib.Omega.{arith}
use lib.Dec.{T, leb, leb→le, nleb→lt}
use lib.Pow.{pow_pos}
use lib.IntN.{ℤ, pos, nat_abs, ◌+ℤ◌, ◌-ℤ◌, ◌*ℤ◌}
use Rattle.integers.specs.Within.{Within}
use Rattle.integers.proofs.Within.{within, within-+, within-*, within_pos, within_as}
use Rattle.integers.proofs.Laws.{abs-*, abs_squares}
use Rattle.integers.proofs.Ring.{con, ◌⊕◌, ◌⊝◌, ◌⊗◌, ◌≐◌, ring}
use Rattle.lists.specs.Lists.{all_below}
use Rattle.lists.proofs.Passing.{all_at}
use Rattle.cordic.specs.Norm.{dot, Small, norm_bound, most}
use Rattle.cordic.specs.declared.Pair.{Pair}
use Rattle.cordic.specs.MicroRotation.{micro_rotation_of, micro_rotations}
use Rattle.cordic.specs.Gain.{shrunk, stretched}
use Rattle.cordic.proofs.Step.{step_dot, step_small}

-- ---- the growth is the fraction stretched / shrunk; the error, for micro-rotations of error B each
abbrev pub err : ℕ → ℕ → ℕ
err B zero = 0
err B (suc i) = shrunk i * (2 ^ i * 2 ^ i * B) + (2 ^ i * 2 ^ i + 1) * err B i

pub shrunk-pos : (i : ℕ) → 0 < shrunk i
shrunk-pos zero = le_refl 1
shrunk-pos (suc i) = mul-pos (shrunk-pos i) (mul-pos (pow_pos i) (pow_pos i))

-- after i micro-rotations D₀ has become D
pub record Near (B i : ℕ) (D₀ D : ℤ) : Type 0 where
  pub off : Within (pos (shrunk i) *ℤ D -ℤ pos (stretched i) *ℤ D₀) (err B i)

near_start : (B : ℕ) (D : ℤ) → Near B 0 D D
near_start B D = record { off = within (rw (cancel D) (le_refl 0)) }
  where
    cancel : (D : ℤ) → pos 1 *ℤ D -ℤ pos 1 *ℤ D ≡ pos 0
    cancel D = ring (D ∷ []) (λ D. con (pos 1) ⊗ D ⊝ con (pos 1) ⊗ D ≐ con (pos 0)) tt

telescope : (t s k B E : ℕ) (D₀ D D' : ℤ) → Within (pos t *ℤ D -ℤ pos s *ℤ D₀) E → Within (pos k *ℤ D' -ℤ pos (k + 1) *ℤ D) (k * B)
    → Within (pos (t * k) *ℤ D' -ℤ pos (s * (k + 1)) *ℤ D₀) (t * (k * B) + (k + 1) * E)
telescope t s k B E D₀ D D' h g =
    within_as (within-+ (within-* (within_pos t) g) (within-* (within_pos (k + 1)) h)) (identity (pos t) (pos s) (pos k) D₀ D D') (le_refl (t * (k * B) + (k + 1) * E))
  where
    identity : (t s k D₀ D D' : ℤ) → t *ℤ k *ℤ D' -ℤ s *ℤ (k +ℤ pos 1) *ℤ D₀ ≡ t *ℤ (k *ℤ D' -ℤ (k +ℤ pos 1) *ℤ D) +ℤ (k +ℤ pos 1) *ℤ (t *ℤ D -ℤ s *ℤ D₀)
    identity t s k D₀ D D' = ring (t ∷ s ∷ k ∷ D₀ ∷ D ∷ D' ∷ [])
        (λ t s k D₀ D D'. t ⊗ k ⊗ D' ⊝ s ⊗ (k ⊕ con (pos 1)) ⊗ D₀ ≐ t ⊗ (k ⊗ D' ⊝ (k ⊕ con (pos 1)) ⊗ D) ⊕ (k ⊕ con (pos 1)) ⊗ (t ⊗ D ⊝ s ⊗ D₀)) tt

near_step : {M i : ℕ} {D₀ : ℤ} (σ : Bool) (c d : Pair) → Small M (micro_rotation_of i σ c) → Small M (micro_rotation_of i σ d)
    → Near (4 * M + 2) i D₀ (dot c d) → Near (4 * M + 2) (suc i) D₀ (dot (micro_rotation_of i σ c) (micro_rotation_of i σ d))
near_step {M} {i} {D₀} σ c d a b h = record {
  off =
      telescope (shrunk i) (stretched i) (2 ^ i * 2 ^ i) (4 * M + 2) (err (4 * M + 2) i) D₀ (dot c d) (dot (micro_rotation_of i σ c) (micro_rotation_of i σ d))
      h.off (step_dot σ i M c d a b);
}

-- ---- from the dot product of a column with itself to the size of its words
pub root_le : (a b : ℕ) → a * a ≤ b * b → a ≤ b
root_le a b h = go (leb a b) (leb→le a b) (nleb→lt a b)
  where
    go : (t : Bool) → (T t → a ≤ b) → (T (not t) → b < a) → a ≤ b
    go true f g = f tt
    go false f g = absurd (clash (mul-le-mul (g tt) (g tt)))
      where
        clash : suc b * suc b ≤ a * a → ⊥
        clash k = omega arith

pub squares_small : (M : ℕ) (c : Pair) → Within (dot c c) (M * M) → Small M c
squares_small M c h = record { u = within (root_le (nat_abs c.u) M (omega (arith, both))); v = within (root_le (nat_abs c.v) M (omega (arith, both))) }
  where
    both : nat_abs c.u * nat_abs c.u + nat_abs c.v * nat_abs c.v ≤ M * M
    both = rw (abs_squares c.u c.v) at h.abs

-- ---- the errors of a micro-rotation: before that is known of its result, and after
abbrev pub crude : ℕ
crude = 4 * (most + most) + 2

abbrev pub sharp : ℕ
sharp = 4 * most + 2

-- the room is there after each of the 28 micro-rotations, which is computed
abbrev room : ℕ → Bool
room i = leb (err crude i + stretched i * norm_bound) (shrunk i * (most * most))

room_at : (i : ℕ) → i ≤ 28 → err crude i + stretched i * norm_bound ≤ shrunk i * (most * most)
unfolding all_below
room_at i h = leb→le (err crude i + stretched i * norm_bound) (shrunk i * (most * most)) (subst T (sym (all_at room 29 refl i (omega arith))) tt)

pub near_small : (i : ℕ) (c₀ c : Pair) → i ≤ 28 → Within (dot c₀ c₀) norm_bound → Near crude i (dot c₀ c₀) (dot c c) → Small most c
near_small i c₀ c h n k = squares_small most c (within (le_of_mul-le-mul_left grown (shrunk-pos i)))
  where
    back : (t s D D₀ : ℤ) → t *ℤ D ≡ (t *ℤ D -ℤ s *ℤ D₀) +ℤ s *ℤ D₀
    back t s D D₀ = ring (t ∷ s ∷ D ∷ D₀ ∷ []) (λ t s D D₀. t ⊗ D ≐ (t ⊗ D ⊝ s ⊗ D₀) ⊕ s ⊗ D₀) tt

    whole : Within (pos (shrunk i) *ℤ dot c c) (shrunk i * (most * most))
    whole = within_as (within-+ k.off (within-* (within_pos (stretched i)) n)) (back (pos (shrunk i)) (pos (stretched i)) (dot c c) (dot c₀ c₀)) (room_at i h)

    grown : shrunk i * nat_abs (dot c c) ≤ shrunk i * (most * most)
    grown = rw (abs-* (pos (shrunk i)) (dot c c)) at whole.abs

-- ---- the micro-rotations in a row

-- what holds of two columns after i of them
pub record StepsKept (c₀ d₀ : Pair) (i : ℕ) (c d : Pair) : Type 0 where
  pub cc : Near crude i (dot c₀ c₀) (dot c c)
  pub dd : Near crude i (dot d₀ d₀) (dot d d)
  pub cd : Near sharp i (dot c₀ d₀) (dot c d)

module _ (c₀ d₀ : Pair) (nc : Within (dot c₀ c₀) norm_bound) (nd : Within (dot d₀ d₀) norm_bound) where
  pub kept-start : StepsKept c₀ d₀ 0 c₀ d₀
  kept-start = record { cc = near_start crude (dot c₀ c₀); dd = near_start crude (dot d₀ d₀); cd = near_start sharp (dot c₀ d₀) }

  pub kept_step : (σ : Bool) (i : ℕ) (c d : Pair) → i < 28 → StepsKept c₀ d₀ i c d → StepsKept c₀ d₀ (suc i) (micro_rotation_of i σ c) (micro_rotation_of i σ d)
  kept_step σ i c d h k =
      let c2 = step_small σ i most c (near_small i c₀ c (le_of_lt h) nc k.cc) in
      let d2 = step_small σ i most d (near_small i d₀ d (le_of_lt h) nd k.dd) in
      let nc' = near_step σ c c c2 c2 k.cc in
      let nd' = near_step σ d d d2 d2 k.dd in
      record { cc = nc'; dd = nd'; cd = near_step σ c d (near_small (suc i) c₀ (micro_rotation_of i σ c) h nc nc') (near_small (suc i) d₀ (micro_rotation_of i σ d) h nd nd') k.cd }

  -- the first n, by any signs
  pub kept_steps : (s : ℕ → Bool) (n : ℕ) → n ≤ 28 → StepsKept c₀ d₀ n (micro_rotations s n c₀) (micro_rotations s n d₀)
  unfolding micro_rotations
  kept_steps s zero h = kept-start
  kept_steps s (suc n) h = kept_step (s n) n (micro_rotations s n c₀) (micro_rotations s n d₀) h (kept_steps s n (le_of_lt h))
