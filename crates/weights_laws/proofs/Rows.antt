-- The rows worked one after the other: a row reads only the components after its own, so that each stays what its row has. Assumes nothing.
use mathlib.Core.Path.{◌≡◌, refl, sym, subst, ◌∙◌}
use mathlib.Core.Bool.{Bool, true, false}
use mathlib.Core.List.{List}
use Prim.Native.Nat.{ℕ, zero, suc, ◌+◌, ◌-◌, ◌≤◌, ◌<◌}
use native.Mathlib.Nat.{le_refl}
use native.Mathlib.Omega.{arith}
use borrow.Author.Tests.{eqb-true, eqb-false}
use lib.Dec.{eqb}
use lib.Ieee.{Float, nan}
use lib.IntN.{ℤ}
use lib.ListN.{length, set, length-set}
use lib.Seq.{get_or-set_same, get_or-set_other}
use Rattle.integers.specs.Matrix.{Matrix}
use Rattle.weights.specs.Solution.{right_side_of, row_left_of, row_component_of, component_of, worked_rows}

module _ (r q : Matrix) (t : ℕ → ℤ) where
  -- components that are the same after row i's own leave the same of it
  left_same : (x y : ℕ → Float) (i : ℕ) (b : Float) (n : ℕ) → ((j : ℕ) → i < j → j < i + 1 + n → x j ≡ y j) → row_left_of r x i b n ≡ row_left_of r y i b n
  unfolding row_left_of
  left_same x y i b zero e = refl
  left_same x y i b (suc n) e =
      rw (left_same x y i b n (λ j l h. e j l (omega arith)), e (i + 1 + n) (omega arith) (omega arith))

  pub component_same : (x y : ℕ → Float) (i : ℕ) → i < 16 → ((j : ℕ) → i < j → j < 16 → x j ≡ y j) → row_component_of r q t x i ≡ row_component_of r q t y i
  unfolding row_component_of
  component_same x y i l e = rw (left_same x y i (right_side_of q t i) (15 - i) (λ j m h. e j m (omega arith)))

  pub rows-length : (n : ℕ) → length (worked_rows r q t n) ≡ 16
  unfolding worked_rows
  rows-length zero = refl
  rows-length (suc n) = simp length-set (rows-length n)

  -- one row more, row k, where the rows after it are worked
  module _ (x : List Float) (k : ℕ) (room : k < length x) where
    abbrev with_row : List Float
    with_row = set x k (row_component_of r q t (component_of x) k)

    behind : (i : ℕ) → k ≤ i → i < 16 → row_component_of r q t (component_of with_row) i ≡ row_component_of r q t (component_of x) i
    behind i h m =
        component_same (component_of with_row) (component_of x) i m (λ j a b. get_or-set_other x k j (row_component_of r q t (component_of x) k) nan (λ e. omega arith))

    row_worked : k < 16 → component_of with_row k ≡ row_component_of r q t (component_of with_row) k
    row_worked m = get_or-set_same x k (row_component_of r q t (component_of x) k) nan room ∙ sym (behind k (le_refl k) m)

    one_more : (i : ℕ) (b : Bool) → eqb i k ≡ b → k ≤ i → i < 16 → (k < i → component_of x i ≡ row_component_of r q t (component_of x) i)
        → component_of with_row i ≡ row_component_of r q t (component_of with_row) i
    one_more i true e h m f =
        subst (λ (n : ℕ). component_of with_row n ≡ row_component_of r q t (component_of with_row) n) (sym (eqb-true i k e)) (row_worked (omega arith))
    one_more i false e h m f =
        let other : i ≡ k → ⊥ = eqb-false i k e in
        get_or-set_other x k i (row_component_of r q t (component_of x) k) nan other ∙ f (omega arith) ∙ sym (behind i h m)

  worked_rows_lem : (n i : ℕ) → n ≤ 16 → 16 ≤ i + n → i < 16 → component_of (worked_rows r q t n) i ≡ row_component_of r q t (component_of (worked_rows r q t n)) i
  unfolding worked_rows
  worked_rows_lem zero i l h m = absurd (omega arith)
  worked_rows_lem (suc n) i l h m =
      one_more (worked_rows r q t n) (15 - n) (rw (rows-length n) (omega arith)) i (eqb i (15 - n)) refl (omega arith) m (λ a. worked_rows_lem n i (omega arith) (omega arith) m)

  -- each of the 16 components is what its row has from the others
  pub each_row : (i : ℕ) → i < 16 → component_of (worked_rows r q t 16) i ≡ row_component_of r q t (component_of (worked_rows r q t 16)) i
  each_row i h = worked_rows_lem 16 i (omega arith) (omega arith) h

  -- and whatever the rows have is the same from row 15 up
  module _ (x y : ℕ → Float) (f : (i : ℕ) → i < 16 → x i ≡ row_component_of r q t x i) (g : (i : ℕ) → i < 16 → y i ≡ row_component_of r q t y i) where
    same_from : (n i : ℕ) → 16 ≤ i + n → i < 16 → x i ≡ y i
    same_from zero i h m = absurd (omega arith)
    same_from (suc n) i h m = f i m ∙ component_same x y i m (λ j l k. same_from n j (omega arith) k) ∙ sym (g i m)

    pub same_rows : (i : ℕ) → i < 16 → x i ≡ y i
    same_rows i h = same_from 16 i (omega arith) h
