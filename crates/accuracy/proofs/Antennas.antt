-- The products of antennas, found in R's columns: each sum over 16 rows of the real matrix is one over 8 rows of the complex one. Assumes nothing.
use mathlib.Core.Path.{◌≡◌, ap₂, ◌∙◌, subst}
use mathlib.Core.List.{List, [], ◌∷◌}
use Prim.Native.Nat.{ℕ, ◌+◌, ◌^◌, ◌<◌}
use native.Mathlib.Omega.{arith}
use lib.IntN.{ℤ, pos, ◌+ℤ◌, ◌-ℤ◌, ◌*ℤ◌}
use Rattle.integers.specs.Within.{Within}
use Rattle.integers.proofs.Sum.{sum_equal, sum_halves}
use Rattle.integers.proofs.Ring.{◌⊕◌, ◌⊝◌, ◌⊗◌, neg, ◌≐◌, ring}
use Rattle.matrix_record.specs.MatrixRecord.{real_entry_of}
use Rattle.matrix_record.proofs.MatrixRecord.{upper-left, upper_right, lower-left, lower_right}
use Rattle.workspace.specs.Workspace.{R, Q}
use Rattle.accuracy.specs.Factorization.{gram}
use Rattle.accuracy.specs.Demand3.{Load, workspace_after}
use Rattle.accuracy.specs.Antennas.{re, im, real_product, imaginary_product, Antennas, AntennasKept}
use Rattle.accuracy.proofs.Start.{first}
use Rattle.accuracy.proofs.Demand3.{done}

module _ (rec : List ℕ) (i j : ℕ) (p : i < 8) (q : j < 8) where
  real_is : gram (real_entry_of rec) i j ≡ real_product rec i j
  real_is = sum_halves 8 (λ k. real_entry_of rec k i *ℤ real_entry_of rec k j) ∙ sum_equal 8 rows
    where
      rows : (k : ℕ) → k < 8
          → real_entry_of rec k i *ℤ real_entry_of rec k j +ℤ real_entry_of rec (8 + k) i *ℤ real_entry_of rec (8 + k) j ≡ re rec k i *ℤ re rec k j +ℤ im rec k i *ℤ im rec k j
      rows k h =
          ap₂ (λ x y. x +ℤ y) (ap₂ (λ x y. x *ℤ y) (upper-left rec k i h p) (upper-left rec k j h q))
          (ap₂ (λ x y. x *ℤ y) (lower-left rec k i h p) (lower-left rec k j h q))

  imaginary_is : gram (real_entry_of rec) (8 + i) j ≡ imaginary_product rec i j
  imaginary_is = sum_halves 8 (λ k. real_entry_of rec k (8 + i) *ℤ real_entry_of rec k j) ∙ sum_equal 8 rows
    where
      rows : (k : ℕ) → k < 8
          → real_entry_of rec k (8 + i) *ℤ real_entry_of rec k j +ℤ real_entry_of rec (8 + k) (8 + i) *ℤ real_entry_of rec (8 + k) j ≡ re rec k i *ℤ im rec k j -ℤ im rec k i *ℤ re rec k j
      rows k h =
          ap₂ (λ x y. x +ℤ y) (ap₂ (λ x y. x *ℤ y) (upper_right rec k i h p) (upper-left rec k j h q))
          (ap₂ (λ x y. x *ℤ y) (lower_right rec k i h p) (lower-left rec k j h q))
          ∙ ring (re rec k i ∷ im rec k i ∷ re rec k j ∷ im rec k j ∷ []) (λ x y u v. neg y ⊗ u ⊕ x ⊗ v ≐ x ⊗ v ⊝ y ⊗ u) tt

pub antennas_kept : AntennasKept
antennas_kept rec r q f = record {
  real = λ i j h k. near (gram r i j) (real_is rec i j h k) (f.columns i j (omega arith) (omega arith));
  imaginary = λ i j h k. near (gram r (8 + i) j) (imaginary_is rec i j h k) (f.columns (8 + i) j (omega arith) (omega arith));
}
  where
    near : (x : ℤ) {y z : ℤ} → y ≡ z → Within (x -ℤ pos (2 ^ 26) *ℤ y) (2 ^ 44) → Within (x -ℤ pos (2 ^ 26) *ℤ z) (2 ^ 44)
    near x e = subst (λ (y : ℤ). Within (x -ℤ pos (2 ^ 26) *ℤ y) (2 ^ 44)) e

-- the premise is met by every accepted record, after all turns
pub worked_antennas : (l : Load) → Antennas l.bytes (R (workspace_after (first l) 120))
worked_antennas l = antennas_kept l.bytes (R (workspace_after (first l) 120)) (Q (workspace_after (first l) 120)) (done l)
