-- The accuracy theorem, from the loaded workspace to the result, for rotations that meet `GivensStep`.
-- Assumes nothing.
use mathlib.Core.Path.{◌≡◌, refl, sym, ap, ap₂, ◌∙◌, subst}
use mathlib.Core.Logic.{◌≢◌}
use mathlib.Core.Bool.{Bool, true, false, cond}
use mathlib.Core.List.{List}
use Prim.Native.Nat.{ℕ, suc, ◌+◌, ◌-◌, ◌^◌, ◌≤◌, ◌<◌}
use native.Mathlib.Nat.{le_refl, le_trans, le_of_eq, mul-le-mul}
use native.Mathlib.Decide.{ℕ_discrete, dec_le}
use native.Mathlib.Omega.{arith}
use lib.Dec.{eqb}
use borrow.Author.Tests.{lt-ltb, le-ltb, eq-eqb, ne_eqb}
use lib.IntN.{ℤ, pos, nat_abs, ◌-ℤ◌, ◌*ℤ◌, zero-*ℤ, *ℤ_comm}
use lib.ListN.{get_or}
use Rattle.integers.specs.Within.{Within}
use Rattle.integers.proofs.Laws.{*ℤ-assoc, swap_inner_mul, abs-*}
use Rattle.integers.proofs.Sum.{sum_equal, sum_times, sum_one, sum-abs}
use Rattle.schedule.specs.Schedule.{rotation_at_of}
use Rattle.integers.specs.Matrix.{Matrix}
use Rattle.matrix_record.specs.MatrixRecord.{real_entry_of}
use Rattle.matrix_record.proofs.MatrixRecord.{entry_small}
use Rattle.workspace.specs.Loading.{loaded_at}
use Rattle.accuracy.specs.Factorization.{gram, Factorization}
use Rattle.workspace.proofs.Products.{GivensStep}
use Rattle.accuracy.proofs.Gram.{gram-kept, triangular, diagonal_nonneg}

module _ (rec : List ℕ) where
  -- ---- the loaded words

  in_matrix : (r c : ℕ) → c < 16 → loaded_at rec r c ≡ pos (2 ^ 13) *ℤ real_entry_of rec r c
  unfolding loaded_at
  in_matrix r c h = rw (lt-ltb c 16 h) (*ℤ_comm (real_entry_of rec r c) (pos (2 ^ 13)))

  beside : (r i : ℕ) → loaded_at rec r (16 + i) ≡ cond (eqb r i) (pos (2 ^ 30)) (pos 0)
  unfolding loaded_at
  beside r i = rw (le-ltb (16 + i) 16 (omega arith), shifted (ℕ_discrete r i))
    where
      shifted : Dec (r ≡ i) → eqb (16 + i) (r + 16) ≡ eqb r i
      shifted (yes e) = eq-eqb (16 + i) (r + 16) (omega arith) ∙ sym (eq-eqb r i e)
      shifted (no d) = ne_eqb (16 + i) (r + 16) (λ e. d (omega arith)) ∙ sym (ne_eqb r i d)

  on_identity : (i : ℕ) → loaded_at rec i (16 + i) ≡ pos (2 ^ 30)
  on_identity i = beside i i ∙ ap (λ (b : Bool). cond b (pos (2 ^ 30)) (pos 0)) (eq-eqb i i refl)

  off_identity : (r i : ℕ) → r ≢ i → loaded_at rec r (16 + i) ≡ pos 0
  off_identity r i h = beside r i ∙ ap (λ (b : Bool). cond b (pos (2 ^ 30)) (pos 0)) (ne_eqb r i h)

  -- ---- the products of its columns

  -- column 16 + i has one word, in row i
  gram_beside : (i c : ℕ) → i < 16 → gram (loaded_at rec) (16 + i) c ≡ pos (2 ^ 30) *ℤ loaded_at rec i c
  gram_beside i c h =
      sum_one 16 (λ r. loaded_at rec r (16 + i) *ℤ loaded_at rec r c) i h (λ r q d. ap (λ x. x *ℤ loaded_at rec r c) (off_identity r i d) ∙ zero-*ℤ (loaded_at rec r c))
      ∙ ap (λ x. x *ℤ loaded_at rec i c) (on_identity i)

  -- 2^30 times a loaded word is what its sum should be
  pub loaded-product : (i j : ℕ) → j < 16 → pos (2 ^ 30) *ℤ loaded_at rec i j ≡ pos (2 ^ 43) *ℤ real_entry_of rec i j
  loaded-product i j k = ap (λ x. pos (2 ^ 30) *ℤ x) (in_matrix i j k) ∙ sym (*ℤ-assoc (pos (2 ^ 30)) (pos (2 ^ 13)) (real_entry_of rec i j))

  pub loaded_identity : (i j : ℕ) → pos (2 ^ 30) *ℤ loaded_at rec i (16 + j) ≡ cond (eqb i j) (pos (2 ^ 60)) (pos 0)
  loaded_identity i j = ap (λ x. pos (2 ^ 30) *ℤ x) (beside i j) ∙ either (eqb i j)
    where
      either : (b : Bool) → pos (2 ^ 30) *ℤ cond b (pos (2 ^ 30)) (pos 0) ≡ cond b (pos (2 ^ 60)) (pos 0)
      either true = refl
      either false = refl

  gram-product : (i j : ℕ) → i < 16 → j < 16 → gram (loaded_at rec) (16 + i) j ≡ pos (2 ^ 43) *ℤ real_entry_of rec i j
  gram-product i j h k = gram_beside i j h ∙ loaded-product i j k

  gram_identity : (i j : ℕ) → i < 16 → gram (loaded_at rec) (16 + i) (16 + j) ≡ cond (eqb i j) (pos (2 ^ 60)) (pos 0)
  gram_identity i j h = gram_beside i (16 + j) h ∙ loaded_identity i j

  gram-columns : (i j : ℕ) → i < 16 → j < 16 → gram (loaded_at rec) i j ≡ pos (2 ^ 26) *ℤ gram (real_entry_of rec) i j
  gram-columns i j h k = sum_equal 16 scaled ∙ sum_times 16 (pos (2 ^ 26)) (λ r. real_entry_of rec r i *ℤ real_entry_of rec r j)
    where
      scaled : (r : ℕ) → r < 16 → loaded_at rec r i *ℤ loaded_at rec r j ≡ pos (2 ^ 26) *ℤ (real_entry_of rec r i *ℤ real_entry_of rec r j)
      scaled r q = ap₂ (λ x y. x *ℤ y) (in_matrix r i h) (in_matrix r j k) ∙ swap_inner_mul (pos (2 ^ 13)) (real_entry_of rec r i) (pos (2 ^ 13)) (real_entry_of rec r j)

  module _ (bytes : (k : ℕ) → get_or rec k 0 < 256) where
    -- 16 words of at most 2^28; or the one word 2^30
    norm-matrix : (c : ℕ) → c < 16 → nat_abs (gram (loaded_at rec) c c) ≤ 2 ^ 60
    norm-matrix c h = sum-abs 16 (2 ^ 56) (λ r. loaded_at rec r c *ℤ loaded_at rec r c) square-small
      where
        word_small : (r : ℕ) → r < 16 → nat_abs (loaded_at rec r c) ≤ 2 ^ 28
        word_small r q = subst (λ x. nat_abs x ≤ 2 ^ 28) (sym (in_matrix r c h)) (omega (arith, abs-* (pos (2 ^ 13)) (real_entry_of rec r c), entry_small rec bytes r c))

        square-small : (r : ℕ) → r < 16 → nat_abs (loaded_at rec r c *ℤ loaded_at rec r c) ≤ 2 ^ 56
        square-small r q = le_trans (le_of_eq (abs-* (loaded_at rec r c) (loaded_at rec r c))) (mul-le-mul (word_small r q) (word_small r q))

    norm_beside : (i : ℕ) → i < 16 → nat_abs (gram (loaded_at rec) (16 + i) (16 + i)) ≤ 2 ^ 60
    norm_beside i h = le_of_eq (ap nat_abs (gram_beside i (16 + i) h ∙ ap (λ x. pos (2 ^ 30) *ℤ x) (on_identity i)))

    loaded_short : (a : ℕ) → a < 32 → nat_abs (gram (loaded_at rec) a a) ≤ 2 ^ 60
    loaded_short a h = pick (dec_le 16 a)
      where
        split : 16 ≤ a → 16 + (a - 16) ≡ a
        split k = omega arith

        pick : Dec (16 ≤ a) → nat_abs (gram (loaded_at rec) a a) ≤ 2 ^ 60
        pick (yes k) = subst (λ (c : ℕ). nat_abs (gram (loaded_at rec) c c) ≤ 2 ^ 60) (split k) (norm_beside (a - 16) (omega arith))
        pick (no k) = norm-matrix a (omega arith)

    -- the theorem: from the loaded workspace, the 120 rotations of the schedule end in an accurate result
    module _ (W : ℕ → Matrix) (load : (r c : ℕ) → r < 16 → c < 32 → W 0 r c ≡ loaded_at rec r c)
        (rotated : (k : ℕ) → k < 120 → GivensStep (rotation_at_of k) (W k) (W (suc k))) where
      gram-load : (a b : ℕ) → a < 32 → b < 32 → gram (W 0) a b ≡ gram (loaded_at rec) a b
      gram-load a b p q = sum_equal 16 (λ r h. ap (λ x. x *ℤ W 0 r b) (load r a h p) ∙ ap (λ x. loaded_at rec r a *ℤ x) (load r b h q))

      -- every column is short at the start
      pub start : (a : ℕ) → a < 32 → nat_abs (gram (W 0) a a) ≤ 2 ^ 60
      start a h = subst (λ x. nat_abs x ≤ 2 ^ 60) (sym (gram-load a a h h)) (loaded_short a h)

      -- the words at the end: R's word (i, j) is row i, column j, and Q's is row j, column 16 + i
      pub accurate : Factorization (real_entry_of rec) (W 120) (λ i j. W 120 j (16 + i))
      accurate = record {
        triangular = triangular W rotated start;
        diagonal = diagonal_nonneg W rotated start;
        product = λ i j h k. near (16 + i) j (omega arith) (omega arith) (gram-product i j h k);
        orthogonal = λ i j h k. near (16 + i) (16 + j) (omega arith) (omega arith) (gram_identity i j h);
        columns = λ i j h k. near i j (omega arith) (omega arith) (gram-columns i j h k);
      }
        where
          near : (a b : ℕ) → a < 32 → b < 32 → {x : ℤ} → gram (loaded_at rec) a b ≡ x → Within (gram (W 120) a b -ℤ x) (2 ^ 44)
          near a b p q e = subst (λ x. Within (gram (W 120) a b -ℤ x) (2 ^ 44)) (gram-load a b p q ∙ e) (gram-kept W rotated start 120 (le_refl 120) a b p q)
