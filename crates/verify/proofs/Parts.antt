-- A sum of products in two parts, `high` times 2^30 and `low` more, for whoever has no sums of 128 bits: how large the parts of a product are, and that a
-- high part far from a word decides. Assumes nothing.
use mathlib.Core.Path.{◌≡◌, sym}
use mathlib.Core.Bool.{false}
use mathlib.Core.List.{[], ◌∷◌}
use Prim.Native.Nat.{◌+◌, ◌*◌, ◌^◌, ◌<◌}
use native.Mathlib.Nat.{le_refl, le_of_lt}
use native.Mathlib.Omega.{arith}
use borrow.Author.Tests.{lt-leb}
use lib.Dec.{lit<}
use lib.IntN.{ℤ, pos, nat_abs, ◌+ℤ◌, ◌-ℤ◌, ◌*ℤ◌}
use lib.Signed.{shr_z}
use Rattle.integers.specs.Within.{Within, is_within}
use Rattle.integers.proofs.Laws.{abs-*}
use Rattle.integers.proofs.Within.{within, within--, within_as}
use Rattle.integers.proofs.Ring.{con, ◌⊕◌, ◌⊝◌, ◌⊗◌, ◌≐◌, ring, eqn, ◌⊢◌≐◌, combine}
use Rattle.integers.proofs.Floor.{Floor, floor}

-- ---- the two parts of a product

abbrev pub upper : ℤ → ℤ
upper p = shr_z p (2 ^ 30)

abbrev pub lower : ℤ → ℤ
lower p = p -ℤ upper p *ℤ pos (2 ^ 30)

module _ (p : ℤ) (h : Within p (2 ^ 62)) where
  halves : Floor (2 ^ 30) p
  halves = floor (2 ^ 30) (lit< tt) p

  pub lower-small : Within (lower p) (2 ^ 30)
  lower-small = within_as rest (is p (pos (2 ^ 30)) (upper p) (pos halves.rest) halves.split) (le_refl (2 ^ 30))
    where
      rest : Within (pos halves.rest) (2 ^ 30)
      rest = within (le_of_lt halves.below)

      is : (p k u r : ℤ) → p ≡ k *ℤ u +ℤ r → p -ℤ u *ℤ k ≡ r
      is p k u r e = combine (p ∷ k ∷ u ∷ r ∷ []) (λ p k u r. eqn (con (pos 1)) p (k ⊗ u ⊕ r) ∷ [] ⊢ p ⊝ u ⊗ k ≐ r) tt (e, tt)

  back-small : Within (upper p *ℤ pos (2 ^ 30)) (2 ^ 62 + 2 ^ 30)
  back-small = within_as (within-- h lower-small) (is p (upper p *ℤ pos (2 ^ 30))) (le_refl (2 ^ 62 + 2 ^ 30))
    where
      is : (p b : ℤ) → b ≡ p -ℤ (p -ℤ b)
      is p b = ring (p ∷ b ∷ []) (λ p b. b ≐ p ⊝ (p ⊝ b)) tt

  pub upper-small : Within (upper p) (2 ^ 33)
  upper-small = within (omega (arith, rw (abs-* (upper p) (pos (2 ^ 30))) at back-small.abs))

-- ---- the sum less 2^30 times a word

module _ (high low t : ℤ) where
  error_is : pos (2 ^ 30) *ℤ high +ℤ low -ℤ pos (2 ^ 30) *ℤ t ≡ (high -ℤ t) *ℤ pos (2 ^ 30) +ℤ low
  error_is = is (pos (2 ^ 30)) high low t
    where
      is : (k a b t : ℤ) → k *ℤ a +ℤ b -ℤ k *ℤ t ≡ (a -ℤ t) *ℤ k +ℤ b
      is k a b t = ring (k ∷ a ∷ b ∷ t ∷ []) (λ k a b t. k ⊗ a ⊕ b ⊝ k ⊗ t ≐ (a ⊝ t) ⊗ k ⊕ b) tt

  -- a high part more than 2^15 from the word leaves the sum outside the limit
  pub far : Within low (16 * 2 ^ 30) → 2 ^ 15 < nat_abs (high -ℤ t) → false ≡ is_within (pos (2 ^ 30) *ℤ high +ℤ low -ℤ pos (2 ^ 30) *ℤ t) (2 ^ 44)
  unfolding is_within
  far r h = rw error_is (sym (lt-leb (nat_abs error) (2 ^ 44) (omega (arith, rw (abs-* (high -ℤ t) (pos (2 ^ 30))) at whole.abs, h))))
    where
      error : ℤ
      error = (high -ℤ t) *ℤ pos (2 ^ 30) +ℤ low

      is : (e b : ℤ) → e ≡ e +ℤ b -ℤ b
      is e b = ring (e ∷ b ∷ []) (λ e b. e ≐ e ⊕ b ⊝ b) tt

      whole : Within ((high -ℤ t) *ℤ pos (2 ^ 30)) (nat_abs error + 16 * 2 ^ 30)
      whole = within_as (within-- (within {x = error} (le_refl (nat_abs error))) r) (is ((high -ℤ t) *ℤ pos (2 ^ 30)) low) (le_refl (nat_abs error + 16 * 2 ^ 30))
