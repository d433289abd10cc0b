-- One turn of the workspace is what the induction over the schedule asks of a Givens rotation, made or skipped; and where the columns are short it counts
-- nothing. Assumes nothing.
use mathlib.Core.Path.{◌≡◌, refl, sym, ap, ◌∙◌, subst, subst₂}
use mathlib.Core.Logic.{◌≢◌}
use mathlib.Core.Bool.{Bool, true, false}
use mathlib.Core.List.{List}
use Prim.Native.Nat.{ℕ, ◌+◌, ◌-◌, ◌*◌, ◌^◌, ◌≤◌, ◌<◌}
use native.Mathlib.Nat.{le_refl, le_trans, le_of_lt, le_of_eq}
use native.Mathlib.Decide.{ℕ_discrete, dec_lt}
use native.Mathlib.Omega.{arith}
use lib.Dec.{T, eqb, eqb→eq, lit≤}
use borrow.Author.Tests.{eq-eqb, ne_eqb}
use lib.IntN.{ℤ, pos, ◌-ℤ◌}
use lib.Signed.{◌≤ℤ◌, le_z_yes}
use lib.ListN.{length, get_or, take, get_or-append}
use lib.Seq.{get_or-take, get_or-drop}
use Rattle.integers.specs.Within.{Within}
use Rattle.integers.proofs.Within.{within, within_refl, within_le}
use Rattle.integers.proofs.Laws.{abs_squares}
use Rattle.integers.proofs.Magnitude.{nonneg_test}
use Rattle.cordic.specs.Norm.{dot, norm_bound}
use Rattle.cordic.specs.declared.Column.{Column}
use Rattle.cordic.specs.declared.Pair.{Pair}
use Rattle.cordic.proofs.ColumnRotation.{zeroed, rotation_dot}
use Rattle.rotation.specs.Column.{column_stored}
use Rattle.rotation.specs.Rotated.{rotated}
use Rattle.rotation.specs.Turn.{is_clear_of, turned}
use Rattle.rotation.specs.Saturations.{no_saturations}
use Rattle.rotation.proofs.Column.{column_before, rotating, stored_nonneg, stored_short, saturations_none}
use Rattle.rotation.proofs.Places.{rotated-upper, rotated-lower, rotated-zero}
use Rattle.rotation.proofs.Turn.{turn_cases, turn_skipped, turn_rotated, turned-before, turned_other, clear_words}
use Rattle.schedule.specs.declared.Rotation.{Rotation}
use Rattle.workspace.specs.Workspace.{word_in}
use Rattle.workspace.specs.Rotations.{rows_from, workspace_turned, workspace_saturations}
use Rattle.workspace.proofs.Products.{pair, pair_norm, GivensStep}
use Rattle.workspace.proofs.WordsAfter.{part_room, above_length, from_part}

-- ---- the turn of the workspace

-- how far down the lower row is
abbrev gap : Rotation → ℕ
gap t = t.lower - t.upper

-- the two words of column k in the rows of a rotation
abbrev pub in_rows : Rotation → List ℤ → ℕ → Pair
in_rows t l k = record { u = word_in l t.upper k; v = word_in l t.lower k }

-- and that they are short
abbrev pub Short : Rotation → List ℤ → ℕ → Type 0
Short t l k = pair_norm (word_in l) t.upper t.lower k ≤ norm_bound

cols : {x y z w : ℤ} → x ≡ z → y ≡ w → ◌≡◌ {A = Pair} (record { u = x; v = y }) (record { u = z; v = w })
cols p q = λ i. record { u = p i; v = q i }

module _ (t : Rotation) (l : List ℤ) (ordered : t.column ≤ t.upper) (apart : t.upper < t.lower) (inside : t.lower < 16) (room : 512 ≤ length l) where
  roomy : gap t * 32 + 32 ≤ length (rows_from t l)
  roomy = part_room t l ordered apart inside room

  row_at : (r k : ℕ) → t.upper ≤ r → t.upper * 32 + ((r - t.upper) * 32 + k) ≡ r * 32 + k
  row_at r k h = omega arith

  -- the word of a row from the upper one on, after the turn and before it
  in_row : (r k : ℕ) → t.upper ≤ r → word_in (workspace_turned t l) r k ≡ get_or (turned t.column (gap t) (rows_from t l)) ((r - t.upper) * 32 + k) (pos 0)
  unfolding word_in
  in_row r k h = rw (← row_at r k h) (from_part t l ordered apart inside room ((r - t.upper) * 32 + k))

  was_in_row : (r k : ℕ) → t.upper ≤ r → word_in l r k ≡ get_or (rows_from t l) ((r - t.upper) * 32 + k) (pos 0)
  unfolding word_in
  was_in_row r k h = rw (get_or-drop, row_at r k h)

  in_upper : (k : ℕ) → word_in (workspace_turned t l) t.upper k ≡ get_or (turned t.column (gap t) (rows_from t l)) k (pos 0)
  unfolding word_in
  in_upper k = from_part t l ordered apart inside room k

  was_in_upper : (k : ℕ) → word_in l t.upper k ≡ get_or (rows_from t l) k (pos 0)
  unfolding word_in
  was_in_upper k = rw get_or-drop

  -- ---- what stays
  rows_above : (r k : ℕ) → r < t.upper → k < 32 → word_in (workspace_turned t l) r k ≡ word_in l r k
  unfolding word_in workspace_turned
  rows_above r k h q =
      get_or-append (take (t.upper * 32) l) (turned t.column (gap t) (rows_from t l)) (pos 0) (r * 32 + k) (omega (arith, above_length t l ordered apart inside room))
      ∙ get_or-take (t.upper * 32) l (r * 32 + k) (pos 0) (omega arith)

  other_row : (r k : ℕ) → r < 16 → k < 32 → r ≢ t.upper → r ≢ t.lower → word_in (workspace_turned t l) r k ≡ word_in l r k
  other_row r k h q p s = pick (dec_lt r t.upper)
    where
      pick : Dec (r < t.upper) → word_in (workspace_turned t l) r k ≡ word_in l r k
      pick (yes a) = rows_above r k a q
      pick (no a) =
          in_row r k (omega arith)
          ∙ turned_other t.column (gap t) (rows_from t l) (r - t.upper) k q (λ e. omega arith) (λ e. omega arith) ∙ sym (was_in_row r k (omega arith))

  other_column : (r k : ℕ) → r < 16 → k < t.column → word_in (workspace_turned t l) r k ≡ word_in l r k
  other_column r k h q = pick (dec_lt r t.upper)
    where
      pick : Dec (r < t.upper) → word_in (workspace_turned t l) r k ≡ word_in l r k
      pick (yes a) = rows_above r k a (omega arith)
      pick (no a) =
          in_row r k (omega arith)
          ∙ turned-before t.column (gap t) (rows_from t l) (r - t.upper) k (omega arith) q ∙ sym (was_in_row r k (omega arith))

  -- ---- a turn that is skipped
  module _ (clear : is_clear_of t.column (gap t) (rows_from t l) ≡ true) where
    skipped : turned t.column (gap t) (rows_from t l) ≡ rows_from t l
    skipped = sym (turn_skipped t.column (gap t) (rows_from t l) clear).0

    skipped_row : (r k : ℕ) → t.upper ≤ r → word_in (workspace_turned t l) r k ≡ word_in l r k
    skipped_row r k h = in_row r k h ∙ ap (λ (x : List ℤ). get_or x ((r - t.upper) * 32 + k) (pos 0)) skipped ∙ sym (was_in_row r k h)

    skipped_zero : word_in (workspace_turned t l) t.lower t.column ≡ pos 0
    skipped_zero =
        skipped_row t.lower t.column (le_of_lt apart)
        ∙ was_in_row t.lower t.column (le_of_lt apart) ∙ (clear_words t.column (gap t) (rows_from t l) clear).0

    skipped_nonneg : pos 0 ≤ℤ word_in (workspace_turned t l) t.upper t.column
    skipped_nonneg =
        rw (skipped_row t.upper t.column (le_refl t.upper) ∙ was_in_upper t.column)
        (le_z_yes (subst T (sym (nonneg_test (get_or (rows_from t l) t.column (pos 0)) ∙ (clear_words t.column (gap t) (rows_from t l) clear).1)) tt))

    skipped_pair : (a b : ℕ) → Within (pair (word_in (workspace_turned t l)) t.upper t.lower a b -ℤ pair (word_in l) t.upper t.lower a b) (2 ^ 37)
    skipped_pair a b =
        subst₂ (λ (x y : Pair). Within (dot x y -ℤ dot (in_rows t l a) (in_rows t l b)) (2 ^ 37)) (sym (stays a)) (sym (stays b))
        (within_le (within_refl (dot (in_rows t l a) (in_rows t l b))) (lit≤ tt))
      where
        stays : (k : ℕ) → in_rows t (workspace_turned t l) k ≡ in_rows t l k
        stays k = cols (skipped_row t.upper k (le_refl t.upper)) (skipped_row t.lower k (le_of_lt apart))

  -- ---- the two rows
  before_is : (k : ℕ) → column_before (gap t) (rows_from t l) k ≡ in_rows t l k
  unfolding word_in
  before_is k = rw (get_or-drop, get_or-drop, row_at t.lower k (le_of_lt apart))

  -- a column that is short
  short : (k : ℕ) → Short t l k → Within (dot (column_before (gap t) (rows_from t l) k) (column_before (gap t) (rows_from t l) k)) norm_bound
  short k n =
      subst (λ (x : Pair). Within (dot x x) norm_bound) (sym (before_is k))
      (within (le_trans (le_of_eq (abs_squares (word_in l t.upper k) (word_in l t.lower k))) n))

  -- ---- a turn that is made
  module _ (turns : is_clear_of t.column (gap t) (rows_from t l) ≡ false) where
    made : turned t.column (gap t) (rows_from t l) ≡ rotated t.column (gap t) (rows_from t l)
    made = sym (turn_rotated t.column (gap t) (rows_from t l) turns).0

    made_row : (r k : ℕ) → t.upper ≤ r → word_in (workspace_turned t l) r k ≡ get_or (rotated t.column (gap t) (rows_from t l)) ((r - t.upper) * 32 + k) (pos 0)
    made_row r k h = in_row r k h ∙ ap (λ (x : List ℤ). get_or x ((r - t.upper) * 32 + k) (pos 0)) made

    made_zero : word_in (workspace_turned t l) t.lower t.column ≡ pos 0
    made_zero = made_row t.lower t.column (le_of_lt apart) ∙ rotated-zero t.column (gap t) (rows_from t l) roomy (omega arith) (omega arith)

    stored-upper : (k : ℕ) → t.column ≤ k → k < 32 → word_in (workspace_turned t l) t.upper k ≡ (column_stored t.column (gap t) (rows_from t l) k).upper.value
    stored-upper k p q = in_upper k ∙ ap (λ (x : List ℤ). get_or x k (pos 0)) made ∙ rotated-upper t.column (gap t) (rows_from t l) roomy k p q

    stored-lower : (k : ℕ) → t.column < k → k < 32 → word_in (workspace_turned t l) t.lower k ≡ (column_stored t.column (gap t) (rows_from t l) k).lower.value
    stored-lower k p q = made_row t.lower k (le_of_lt apart) ∙ rotated-lower t.column (gap t) (rows_from t l) roomy (omega arith) k p q

    made_nonneg : pos 0 ≤ℤ word_in (workspace_turned t l) t.upper t.column
    made_nonneg = rw (stored-upper t.column (le_refl t.column) (omega arith)) (stored_nonneg t.column (gap t) (rows_from t l))

    column-after : (k : ℕ) → t.column ≤ k → k < 32 → Short t l k → in_rows t (workspace_turned t l) k ≡ zeroed (eqb k t.column) (rotating t.column (gap t) (rows_from t l) k)
    column-after k p q n = pick (ℕ_discrete k t.column)
      where
        upper : word_in (workspace_turned t l) t.upper k ≡ (rotating t.column (gap t) (rows_from t l) k).u
        upper = stored-upper k p q ∙ ap (λ (x : Column). x.upper.value) (stored_short t.column (gap t) (rows_from t l) k (short k n))

        lower : k ≢ t.column → word_in (workspace_turned t l) t.lower k ≡ (rotating t.column (gap t) (rows_from t l) k).v
        lower d = stored-lower k (omega arith) q ∙ ap (λ (x : Column). x.lower.value) (stored_short t.column (gap t) (rows_from t l) k (short k n))

        pick : Dec (k ≡ t.column) → in_rows t (workspace_turned t l) k ≡ zeroed (eqb k t.column) (rotating t.column (gap t) (rows_from t l) k)
        pick (yes e) = rw (eq-eqb k t.column e) (cols upper (ap (λ (j : ℕ). word_in (workspace_turned t l) t.lower j) e ∙ made_zero))
        pick (no d) = rw (ne_eqb k t.column d) (cols upper (lower d))

    -- the product of two columns
    made_pair : (a b : ℕ) → t.column ≤ a → a < 32 → t.column ≤ b → b < 32 → Short t l a → Short t l b
        → Within (pair (word_in (workspace_turned t l)) t.upper t.lower a b -ℤ pair (word_in l) t.upper t.lower a b) (2 ^ 37)
    made_pair a b p q r s m n = kept
      where
        same : (k : ℕ) → T (eqb k t.column) → column_before (gap t) (rows_from t l) k ≡ column_before (gap t) (rows_from t l) t.column
        same k e = ap (column_before (gap t) (rows_from t l)) (eqb→eq k t.column e)

        words : Within (dot (zeroed (eqb a t.column) (rotating t.column (gap t) (rows_from t l) a)) (zeroed (eqb b t.column) (rotating t.column (gap t) (rows_from t l) b))
            -ℤ dot (column_before (gap t) (rows_from t l) a) (column_before (gap t) (rows_from t l) b)) (2 ^ 37)
        words = rotation_dot (column_before (gap t) (rows_from t l) t.column) (column_before (gap t) (rows_from t l) a) (column_before (gap t) (rows_from t l) b) (eqb a t.column) (eqb b t.column)
            (same a) (same b) (short a m) (short b n)

        kept : Within (dot (in_rows t (workspace_turned t l) a) (in_rows t (workspace_turned t l) b) -ℤ dot (in_rows t l a) (in_rows t l b)) (2 ^ 37)
        kept = subst₂ (λ (x y : Pair). Within (dot x y -ℤ dot (in_rows t l a) (in_rows t l b)) (2 ^ 37)) (sym (column-after a p q m)) (sym (column-after b r s n))
            (subst₂ (λ (x y : Pair). Within (dot (zeroed (eqb a t.column) (rotating t.column (gap t) (rows_from t l) a)) (zeroed (eqb b t.column) (rotating t.column (gap t) (rows_from t l) b)) -ℤ dot x y) (2 ^ 37))
            (before_is a) (before_is b) words)

  -- ---- either
  either : {P : Type 0} → (is_clear_of t.column (gap t) (rows_from t l) ≡ true → P) → (is_clear_of t.column (gap t) (rows_from t l) ≡ false → P) → P
  either {P} skip turn = pick (is_clear_of t.column (gap t) (rows_from t l)) refl
    where
      pick : (b : Bool) → is_clear_of t.column (gap t) (rows_from t l) ≡ b → P
      pick true e = skip e
      pick false e = turn e

  -- the turn is a Givens rotation
  pub givens_step : GivensStep t (word_in l) (word_in (workspace_turned t l))
  givens_step = record {
    other_row = other_row;
    other_column = other_column;
    lower-zero = either skipped_zero made_zero;
    upper_nonneg = either skipped_nonneg made_nonneg;
    pair-kept = λ a b p q r s m n. either (λ e. skipped_pair e a b) (λ e. made_pair e a b p q r s m n);
  }

  -- and it counts nothing where every column is short
  pub workspace_uncounted : ((k : ℕ) → k < 32 → Short t l k) → workspace_saturations t l ≡ no_saturations
  unfolding workspace_saturations
  workspace_uncounted n =
      turn_cases t.column (gap t) (rows_from t l) (λ words s made. s ≡ no_saturations) (λ e. refl)
      (λ e. saturations_none t.column (gap t) (rows_from t l) (λ k p q. short k (n k q)))
