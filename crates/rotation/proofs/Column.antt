-- What a rotation stores in a column: the pair that `cordic` bounds. Where that is short, no word is saturated, so that the rotation counts none.
-- Assumes nothing.
use mathlib.Core.Path.{◌≡◌, refl, ◌∙◌}
use mathlib.Core.Bool.{Bool, true, false, cond}
use mathlib.Core.List.{List}
use Prim.Native.Nat.{ℕ, ◌+◌, ◌*◌, ◌≤◌, ◌<◌, zero-le}
use native.Mathlib.Decide.{dec_lt}
use native.Mathlib.Omega.{arith}
use lib.Dec.{T, ltb, eqb, le→leb, lit<}
use lib.IntN.{ℤ, pos, negsuc}
use lib.Signed.{non_neg, ◌≤ℤ◌, le_z_yes}
use lib.ListN.{get_or}
use borrow.Author.Tests.{lt-ltb, le-ltb}
use mir.Syntax.{w32}
use Rattle.integers.specs.Within.{Within}
use Rattle.integers.proofs.Within.{within_fits}
use Rattle.integers.proofs.Sum.{total-zero}
use Rattle.cordic.specs.Norm.{dot, norm_bound}
use Rattle.cordic.specs.declared.Pair.{Pair}
use Rattle.cordic.specs.declared.Word.{Word}
use Rattle.cordic.specs.Word.{saturate}
use Rattle.cordic.proofs.Words.{saturate_fits}
use Rattle.cordic.proofs.ColumnRotation.{rotated_pair, rotation_words, rotation_upper}
use Rattle.rotation.specs.Column.{column_at, rotated_at, stored, column_stored}
use Rattle.rotation.specs.Rotated.{saturations_at, saturations_of}
use Rattle.rotation.specs.Saturations.{no_saturations}
use Rattle.rotation.proofs.Counts.{sides}

-- ---- saturation

-- a word that is not negative is stored as one
saturate_nonneg : (z : ℤ) → T (non_neg z) → pos 0 ≤ℤ (saturate z).value
unfolding saturate
saturate_nonneg (pos n) t = pick (ltb 2147483647 n)
  where
    from : (m : ℕ) → pos 0 ≤ℤ pos m
    from m = le_z_yes (le→leb 0 m zero-le)

    pick : (b : Bool) → pos 0 ≤ℤ (cond {A = Word} b (record { value = pos 2147483647; saturated = true }) (record { value = pos n; saturated = false })).value
    pick true = from 2147483647
    pick false = from n
saturate_nonneg (negsuc n) t = absurd t

-- ---- the two words of column k, in the part that begins at the upper row: before the rotation, and after it but for the lower leading word
abbrev pub column_before : ℕ → List ℤ → ℕ → Pair
column_before gap l k = record { u = get_or l k (pos 0); v = get_or l (gap * 32 + k) (pos 0) }

abbrev pub rotating : ℕ → ℕ → List ℤ → ℕ → Pair
rotating c gap l k = rotated_pair (column_before gap l c) (column_before gap l k)

module _ (c gap : ℕ) (l : List ℤ) where
  -- what is stored in column k
  pub stored_is : (k : ℕ) → column_stored c gap l k ≡ record { upper = saturate (rotating c gap l k).u; lower = saturate (rotating c gap l k).v }
  unfolding column_stored stored rotated_at column_at
  stored_is k = refl

  -- the upper leading word is not negative
  pub stored_nonneg : pos 0 ≤ℤ (column_stored c gap l c).upper.value
  stored_nonneg = rw (stored_is c) (saturate_nonneg (rotating c gap l c).u (rotation_upper (column_before gap l c)))

  -- a column whose words are short enough is stored with no saturation
  pub stored_short : (k : ℕ) → Within (dot (column_before gap l k) (column_before gap l k)) norm_bound
      → column_stored c gap l k ≡ record { upper = record { value = (rotating c gap l k).u; saturated = false }; lower = record { value = (rotating c gap l k).v; saturated = false } }
  stored_short k n =
      let s = rotation_words (column_before gap l c) (column_before gap l k) n in
      stored_is k ∙ rw (saturate_fits _ (within_fits w32 (rotating c gap l k).u s.u (lit< tt)), saturate_fits _ (within_fits w32 (rotating c gap l k).v s.v (lit< tt)))

  -- ---- the counts

  nothing : (b : Bool) → 0 + cond b 0 0 ≡ 0
  nothing true = refl
  nothing false = refl

  -- a column before the leading one counts nothing
  pub before-none : (k : ℕ) → k < c → saturations_at c gap l k ≡ 0
  unfolding saturations_at
  before-none k h = rw (lt-ltb k c h)

  -- nor does one that is short
  short_none : (k : ℕ) → c ≤ k → Within (dot (column_before gap l k) (column_before gap l k)) norm_bound → saturations_at c gap l k ≡ 0
  unfolding saturations_at
  short_none k h n = rw (le-ltb k c h, stored_short k n) (nothing (eqb k c))

  -- where every column from the leading one on is short, the rotation counts nothing
  pub saturations_none : ((k : ℕ) → c ≤ k → k < 32 → Within (dot (column_before gap l k) (column_before gap l k)) norm_bound) → saturations_of c gap l ≡ no_saturations
  unfolding saturations_of
  saturations_none short =
      sides
      (total-zero 16 (saturations_at c gap l) (λ k h. pick k (omega arith) (dec_lt k c)))
      (total-zero 16 (λ j. saturations_at c gap l (16 + j)) (λ k h. pick (16 + k) (omega arith) (dec_lt (16 + k) c)))
    where
      pick : (k : ℕ) → k < 32 → Dec (k < c) → saturations_at c gap l k ≡ 0
      pick k h (yes p) = before-none k p
      pick k h (no p) = short_none k (omega arith) (short k (omega arith) h)
