-- The global part of the accuracy theorem: what holds of the workspace after k rotations of the schedule, each of which is a `GivensStep`.
-- Assumes nothing.
use mathlib.Core.Path.{◌≡◌, sym, ap, ◌∙◌, subst, subst₂}
use mathlib.Core.Logic.{◌≢◌, ◌⊎◌, inl, inr}
use mathlib.Core.List.{List, [], ◌∷◌}
use Prim.Native.Nat.{ℕ, zero, suc, ◌*◌, ◌^◌, ◌≤◌, ◌<◌}
use native.Mathlib.Nat.{le_refl, le_trans, le_of_eq}
use native.Mathlib.Decide.{ℕ_discrete, dec_le}
use native.Mathlib.Omega.{arith}
use lib.IntN.{ℤ, pos, nat_abs, ◌+ℤ◌, ◌-ℤ◌, ◌*ℤ◌, zero-*ℤ, *ℤ_comm}
use lib.Signed.{◌≤ℤ◌, ≤ℤ_refl}
use Rattle.cordic.specs.Norm.{norm_bound}
use Rattle.integers.specs.Within.{Within}
use Rattle.integers.specs.Sum.{sum}
use Rattle.integers.proofs.Laws.{square_is}
use Rattle.integers.specs.Square.{square}
use Rattle.integers.proofs.Within.{within_refl, within_trans, within_common, within_le, within_abs}
use Rattle.integers.proofs.Sum.{sum_equal, others, sum_others, others_equal, sum-total, two_of_total}
use Rattle.integers.proofs.Claim.{both, Means, each_at}
use Rattle.schedule.specs.declared.Rotation.{Rotation}
use Rattle.schedule.specs.Schedule.{rotation_at_of}
use Rattle.integers.specs.Matrix.{Matrix}
use Rattle.workspace.proofs.Products.{pair, pair_norm, GivensStep}
use Rattle.accuracy.specs.Factorization.{gram}
use Rattle.accuracy.specs.Lengths.{squared_length}
use Rattle.schedule.proofs.Clear.{elsewhere, apart, all_apart, cleared, raised, fits, done, done_none, done_next, next_fits, rotation_shape}
use Rattle.schedule.proofs.Diagonal.{diagonal_raised, below_cleared}

-- ---- a column's squared length

pub gram-length : (W : Matrix) (a : ℕ) → gram W a a ≡ pos (squared_length W a)
gram-length W a = sum_equal 16 (λ r q. square_is (W r a)) ∙ sum-total 16 (λ r. square (W r a))

-- it bounds the part of two rows
pair-norm : (W : Matrix) (u l a : ℕ) → u < l → l < 16 → pair_norm W u l a ≤ nat_abs (gram W a a)
pair-norm W u l a h k = le_trans (two_of_total 16 (λ r. square (W r a)) u l h k) (le_of_eq (sym (ap nat_abs (gram-length W a))))

pair_comm : (W : Matrix) (u l a b : ℕ) → pair W u l a b ≡ pair W u l b a
pair_comm W u l a b = ap (λ x. x +ℤ W l a *ℤ W l b) (*ℤ_comm (W u a) (W u b)) ∙ ap (λ x. W u b *ℤ W u a +ℤ x) (*ℤ_comm (W l a) (W l b))

pair-zero : (W : Matrix) (u l a b : ℕ) → W u a ≡ pos 0 → W l a ≡ pos 0 → pair W u l a b ≡ pos 0
pair-zero W u l a b p q =
    ap (λ x. x *ℤ W u b +ℤ W l a *ℤ W l b) p ∙ ap (λ x. pos 0 *ℤ W u b +ℤ x *ℤ W l b) q
    ∙ ap (λ x. x +ℤ pos 0 *ℤ W l b) (zero-*ℤ (W u b)) ∙ ap (λ x. pos 0 +ℤ x) (zero-*ℤ (W l b))

-- ---- what the rotations made leave: zeros where they cleared, and upper leading words that are not negative

Left : Matrix → List Rotation → Type 0
Left W [] = Unit {0}
Left W (d ∷ ds) = (W d.lower d.column ≡ pos 0) × (pos 0 ≤ℤ W d.upper d.column) × Left W ds

zero_at_lem : (W : Matrix) (ds : List Rotation) → Left W ds → (r c : ℕ) → Means (cleared ds r c) → W r c ≡ pos 0
unfolding Left cleared
zero_at_lem W [] z r c m = absurd m
zero_at_lem W (d ∷ ds) z r c m = pick m (zero_at_lem W ds z.2 r c)
  where
    pick : ((d.lower ≡ r) × (d.column ≡ c)) ⊎ Means (cleared ds r c) → (Means (cleared ds r c) → W r c ≡ pos 0) → W r c ≡ pos 0
    pick (inl e) ih = subst₂ (λ (x y : ℕ). W x y ≡ pos 0) e.0 e.1 z.0
    pick (inr m) ih = ih m

nonneg_at : (W : Matrix) (ds : List Rotation) → Left W ds → (r c : ℕ) → Means (raised ds r c) → pos 0 ≤ℤ W r c
unfolding Left raised
nonneg_at W [] z r c m = absurd m
nonneg_at W (d ∷ ds) z r c m = pick m (nonneg_at W ds z.2 r c)
  where
    pick : ((d.upper ≡ r) × (d.column ≡ c)) ⊎ Means (raised ds r c) → (Means (raised ds r c) → pos 0 ≤ℤ W r c) → pos 0 ≤ℤ W r c
    pick (inl e) ih = subst₂ (λ (x y : ℕ). pos 0 ≤ℤ W x y) e.0 e.1 z.1
    pick (inr m) ih = ih m

-- ---- one rotation

module _ (t : Rotation) (W W' : Matrix) (rotated : GivensStep t W W') where
  -- a zero stays: its column is an earlier one, or its row another
  zero-kept : (d : Rotation) → Means (apart d t) → W d.lower d.column ≡ pos 0 → W' d.lower d.column ≡ pos 0
  zero-kept d m z = pick m.1
    where
      pick : Means (elsewhere d t) → W' d.lower d.column ≡ pos 0
      pick (inl q) = rotated.other_column d.lower d.column m.0.1.1 q ∙ z
      pick (inr q) = rotated.other_row d.lower d.column m.0.1.1 (omega (arith, m.0)) q.1.0 q.1.1 ∙ z

  -- a word that is not negative stays so: its column is an earlier one, or its row is the upper one, the lower one or another
  nonneg_kept : (d : Rotation) → Means (apart d t) → pos 0 ≤ℤ W d.upper d.column → pos 0 ≤ℤ W' d.upper d.column
  nonneg_kept d m z = column m.1
    where
      row : d.upper < 16
      row = omega (arith, m.0)

      same_column : d.column ≡ t.column → Dec (d.upper ≡ t.upper) → Dec (d.upper ≡ t.lower) → pos 0 ≤ℤ W' d.upper d.column
      same_column e (yes p) q = subst₂ (λ (x y : ℕ). pos 0 ≤ℤ W' x y) (sym p) (sym e) rotated.upper_nonneg
      same_column e (no p) (yes q) =
          subst₂ (λ (x y : ℕ). pos 0 ≤ℤ W' x y) (sym q) (sym e) (subst (λ x. pos 0 ≤ℤ x) (sym rotated.lower-zero) (≤ℤ_refl (pos 0)))
      same_column e (no p) (no q) = subst (λ x. pos 0 ≤ℤ x) (sym (rotated.other_row d.upper d.column row (omega (arith, m.0)) p q)) z

      column : Means (elsewhere d t) → pos 0 ≤ℤ W' d.upper d.column
      column (inl q) = subst (λ x. pos 0 ≤ℤ x) (sym (rotated.other_column d.upper d.column row q)) z
      column (inr q) = same_column q.0 (ℕ_discrete d.upper t.upper) (ℕ_discrete d.upper t.lower)

  left-kept : (ds : List Rotation) → Means (all_apart ds t) → Left W ds → Left W' ds
  unfolding all_apart Left
  left-kept [] m z = tt
  left-kept (d ∷ ds) m z = (zero-kept d m.0 z.0, nonneg_kept d m.0 z.1, left-kept ds m.1 z.2)

  module _ (ds : List Rotation) (m : Means (fits ds t)) (left : Left W ds) where
    left-next : Left W' (t ∷ ds)
    unfolding Left
    left-next = (rotated.lower-zero, rotated.upper_nonneg, left-kept ds m.0.1 left)

    -- before the leading column the two rows hold zeros, and nothing changes
    pair-before : (a b : ℕ) → a < t.column → pair W' t.upper t.lower a b ≡ pair W t.upper t.lower a b
    pair-before a b h =
        pair-zero W' t.upper t.lower a b (same t.upper (omega (arith, m.0.0)) ∙ upper) (same t.lower m.0.0.1.1 ∙ lower)
        ∙ sym (pair-zero W t.upper t.lower a b upper lower)
      where
        zeros : Means (cleared ds t.upper a) × Means (cleared ds t.lower a)
        zeros = each_at t.column (λ c. both (cleared ds t.upper c) (cleared ds t.lower c)) m.1 a h

        upper : W t.upper a ≡ pos 0
        upper = zero_at_lem W ds left t.upper a zeros.0

        lower : W t.lower a ≡ pos 0
        lower = zero_at_lem W ds left t.lower a zeros.1

        same : (r : ℕ) → r < 16 → W' r a ≡ W r a
        same r q = rotated.other_column r a q h

    -- the rotation changes the products of columns by at most 2^37
    gram_step : (a b : ℕ) → a < 32 → b < 32 → nat_abs (gram W a a) ≤ norm_bound → nat_abs (gram W b b) ≤ norm_bound
        → Within (gram W' a b -ℤ gram W a b) (2 ^ 37)
    gram_step a b a<32 b<32 na nb =
        subst₂ (λ (x y : ℤ). Within (x -ℤ y) (2 ^ 37)) (sym new) (sym old) (within_common rest (pair W' u l a b) (pair W u l a b) (pick (dec_le t.column a) (dec_le t.column b)))
      where
        u : ℕ
        u = t.upper

        l : ℕ
        l = t.lower

        u<l : u < l
        u<l = m.0.0.1.0

        l<16 : l < 16
        l<16 = m.0.0.1.1

        rest : ℤ
        rest = sum 16 (others u l (λ r. W r a *ℤ W r b))

        kept : (r : ℕ) → r < 16 → r ≢ u → r ≢ l → W' r a *ℤ W' r b ≡ W r a *ℤ W r b
        kept r h p q = ap (λ x. x *ℤ W' r b) (rotated.other_row r a h a<32 p q) ∙ ap (λ x. W r a *ℤ x) (rotated.other_row r b h b<32 p q)

        old : gram W a b ≡ rest +ℤ pair W u l a b
        old = sum_others 16 (λ r. W r a *ℤ W r b) u l u<l l<16

        new : gram W' a b ≡ rest +ℤ pair W' u l a b
        new = sum_others 16 (λ r. W' r a *ℤ W' r b) u l u<l l<16 ∙ ap (λ x. x +ℤ pair W' u l a b) (others_equal 16 u l kept)

        unchanged : pair W' u l a b ≡ pair W u l a b → Within (pair W' u l a b -ℤ pair W u l a b) (2 ^ 37)
        unchanged e = subst (λ x. Within (x -ℤ pair W u l a b) (2 ^ 37)) (sym e) (within_le (within_refl (pair W u l a b)) (omega arith))

        pick : Dec (t.column ≤ a) → Dec (t.column ≤ b) → Within (pair W' u l a b -ℤ pair W u l a b) (2 ^ 37)
        pick (no h) k = unchanged (pair-before a b (omega arith))
        pick (yes h) (no k) = unchanged (pair_comm W' u l a b ∙ pair-before b a (omega arith) ∙ pair_comm W u l b a)
        pick (yes h) (yes k) = rotated.pair-kept a b h a<32 k b<32 (le_trans (pair-norm W u l a u<l l<16) na) (le_trans (pair-norm W u l b u<l l<16) nb)

-- ---- all rotations: W k is the workspace after rotations 0 to k - 1

module _ (W : ℕ → Matrix)
    (rotated : (k : ℕ) → k < 120 → GivensStep (rotation_at_of k) (W k) (W (suc k)))
    (start : (a : ℕ) → a < 32 → nat_abs (gram (W 0) a a) ≤ 2 ^ 60) where
  -- what holds after k rotations
  record Invariant (k : ℕ) : Type 0 where
    left : Left (W k) (done k)
    near : (a b : ℕ) → a < 32 → b < 32 → Within (gram (W k) a b -ℤ gram (W 0) a b) (k * 2 ^ 37)

  norm_of : (k : ℕ) → k ≤ 120 → Invariant k → (a : ℕ) → a < 32 → nat_abs (gram (W k) a a) ≤ norm_bound
  norm_of k h p a l = omega (arith, within_abs (gram (W k) a a) (gram (W 0) a a) (p.near a a l l), start a l)

  -- rotation k takes what holds after k rotations to what holds after k + 1
  module _ (k : ℕ) (h : k < 120) (p : Invariant k) where
    left_after : Left (W (suc k)) (rotation_at_of k ∷ done k)
    left_after = left-next (rotation_at_of k) (W k) (W (suc k)) (rotated k h) (done k) (next_fits k h) p.left

    near_after : (a b : ℕ) → a < 32 → b < 32 → Within (gram (W (suc k)) a b -ℤ gram (W k) a b) (2 ^ 37)
    near_after a b a<32 b<32 =
        gram_step (rotation_at_of k) (W k) (W (suc k)) (rotated k h) (done k) (next_fits k h) p.left a b a<32 b<32
        (norm_of k (omega arith) p a a<32) (norm_of k (omega arith) p b b<32)

    holds-next : Invariant (suc k)
    holds-next = record {
      left = subst (Left (W (suc k))) (sym (done_next k h)) left_after;
      near = λ a b a<32 b<32. within_le (within_trans (gram (W (suc k)) a b) (gram (W k) a b) (gram (W 0) a b) (near_after a b a<32 b<32) (p.near a b a<32 b<32)) (omega arith);
    }

  holds : (k : ℕ) → k ≤ 120 → Invariant k
  unfolding Left
  holds zero h = record { left = subst (Left (W 0)) (sym done_none) tt; near = λ a b p q. within_refl (gram (W 0) a b) }
  holds (suc k) h = holds-next k h (holds k (omega arith))

  -- ---- the conclusions

  -- (i) at any rotation number the products of columns are within 2^44 of those at the start
  pub gram-kept : (k : ℕ) → k ≤ 120 → (a b : ℕ) → a < 32 → b < 32 → Within (gram (W k) a b -ℤ gram (W 0) a b) (2 ^ 44)
  gram-kept k h a b p q = within_le ((holds k h).near a b p q) (omega arith)

  -- so every rotation finds columns that are short enough
  pub norm-kept : (k : ℕ) → k ≤ 120 → (a : ℕ) → a < 32 → nat_abs (gram (W k) a a) ≤ norm_bound
  norm-kept k h a p = norm_of k h (holds k h) a p

  pub pair-norm-kept : (k : ℕ) → k < 120 → (a : ℕ) → a < 32 → pair_norm (W k) (rotation_at_of k).upper (rotation_at_of k).lower a ≤ norm_bound
  pair-norm-kept k h a p =
      le_trans (pair-norm (W k) (rotation_at_of k).upper (rotation_at_of k).lower a (rotation_shape k h).1 (rotation_shape k h).2) (norm-kept k (omega arith) a p)

  -- (ii) a position that was cleared is 0
  pub cleared_zero : (k : ℕ) → k ≤ 120 → (r c : ℕ) → Means (cleared (done k) r c) → W k r c ≡ pos 0
  cleared_zero k h r c m = zero_at_lem (W k) (done k) (holds k h).left r c m

  -- (iii) after the last rotation: zeros below the diagonal, and no negative word among the first fifteen on it
  pub triangular : (r c : ℕ) → c < r → r < 16 → W 120 r c ≡ pos 0
  triangular r c h k = cleared_zero 120 (le_refl 120) r c (below_cleared r c h k)

  pub diagonal_nonneg : (j : ℕ) → j < 15 → pos 0 ≤ℤ W 120 j j
  diagonal_nonneg j h = nonneg_at (W 120) (done 120) (holds 120 (le_refl 120)).left j j (diagonal_raised j h)
