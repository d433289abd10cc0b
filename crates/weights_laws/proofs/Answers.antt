-- What the call answers, by its number: the components of the rows worked, or zeros. Assumes nothing.
use mathlib.Core.Path.{◌≡◌, refl, sym, ap, subst, ◌∙◌}
use mathlib.Core.Bool.{true, not}
use mathlib.Core.List.{List}
use Prim.Native.Nat.{ℕ, zero, suc, ◌+◌, ◌-◌, ◌<◌}
use native.Mathlib.Decide.{dec_lt}
use native.Mathlib.Omega.{arith}
use borrow.Author.Tests.{lt-ltb, le-ltb, eq-eqb, ne_eqb}
use lib.Dec.{T}
use lib.Ieee.{Float, nan}
use lib.IntN.{nat_abs}
use lib.ListN.{get_or}
use Rattle.integers.specs.Matrix.{Matrix, is_zero}
use Rattle.lists.proofs.Passing.{all_at, all_of}
use Rattle.lists.proofs.Tabulate.{get_d_tabulate}
use Rattle.refusals.proofs.Refusals.{first-none, unless_passed}
use Rattle.result_record.specs.ResultRecord.{record_r, record_q, record_refusal_of}
use Rattle.covariance.specs.declared.Sample.{Sample}
use Rattle.weights.specs.declared.Weight.{Weight}
use Rattle.weights.specs.Solution.{target_part_of, component_of, zero_float, worked_rows}
use Rattle.weights.specs.Weights.{weight_of, weights_from, diagonal_nonzero_of, weights_refusal_of, weights_by, weights_of}
use Rattle.weights_laws.specs.Replies.{weight_at_of, component_at}

-- weight k of given components
paired : (x : ℕ → Float) (k : ℕ) → k < 8 → get_or (weights_from x) k (record { re = nan; im = nan }) ≡ weight_of x k
paired x k h = get_d_tabulate 8 (weight_of x) (record { re = nan; im = nan }) k h

by_number : (n : ℕ) (rec : List ℕ) (targets : List Sample) → (weights_by n rec targets).number ≡ n
unfolding weights_by
by_number zero rec targets = refl
by_number (suc n) rec targets = refl

module _ (rec : List ℕ) (targets : List Sample) where
  -- the number answered is that of the tests
  pub number_is : (weights_of rec targets).number ≡ weights_refusal_of rec
  unfolding weights_of
  number_is = by_number (weights_refusal_of rec) rec targets

  abbrev pub solution_of : ℕ → Float
  solution_of = component_of (worked_rows (record_r rec) (record_q rec) (target_part_of targets) 16)

  pub solved_weight : weights_refusal_of rec ≡ 0 → (k : ℕ) → k < 8 → weight_at_of rec targets k ≡ weight_of solution_of k
  unfolding weights_of weights_by
  solved_weight e k h = rw e (paired (component_of (worked_rows (record_r rec) (record_q rec) (target_part_of targets) 16)) k h)

  refused_by : (n : ℕ) → (n ≡ 0 → ⊥) → (k : ℕ) → k < 8 → get_or (weights_by n rec targets).weights k (record { re = nan; im = nan }) ≡ weight_of (λ j. zero_float) k
  unfolding weights_by
  refused_by zero f k h = absurd (f refl)
  refused_by (suc n) f k h = paired (λ j. zero_float) k h

  pub refused_weight : (weights_refusal_of rec ≡ 0 → ⊥) → (k : ℕ) → k < 8 → weight_at_of rec targets k ≡ weight_of (λ j. zero_float) k
  unfolding weights_of
  refused_weight f k h = refused_by (weights_refusal_of rec) f k h

  pub solved_component : weights_refusal_of rec ≡ 0 → (j : ℕ) → j < 16 → component_at rec targets j ≡ solution_of j
  solved_component e j h = go (dec_lt j 8)
    where
      go : Dec (j < 8) → component_at rec targets j ≡ solution_of j
      go (yes l) = rw (lt-ltb j 8 l) (ap (λ (w : Weight). w.re) (solved_weight e j l))
      go (no l) =
          let back : 8 + (j - 8) ≡ j = omega arith in
          rw (le-ltb j 8 (omega arith)) (ap (λ (w : Weight). w.im) (solved_weight e (j - 8) (omega arith)) ∙ ap solution_of back)

-- ---- the test of the diagonal

pub nonzero_of : (r : Matrix) → diagonal_nonzero_of r ≡ true → (i : ℕ) → i < 16 → nat_abs (r i i) ≡ 0 → ⊥
unfolding diagonal_nonzero_of
nonzero_of r h i l e = subst T (sym (all_at (λ n. not (is_zero (r n n))) 16 h i l) ∙ ap not (eq-eqb _ _ e)) tt

pub nonzero_if : (r : Matrix) → ((i : ℕ) → i < 16 → nat_abs (r i i) ≡ 0 → ⊥) → diagonal_nonzero_of r ≡ true
unfolding diagonal_nonzero_of
nonzero_if r f = all_of (λ n. not (is_zero (r n n))) 16 (λ i l. ap not (ne_eqb _ _ (f i l)))

module _ (rec : List ℕ) (e : weights_refusal_of rec ≡ 0) where
  pub passed_record : record_refusal_of rec ≡ 0
  unfolding weights_refusal_of
  passed_record = (first-none (record_refusal_of rec) _ e).0

  pub passed_diagonal : (i : ℕ) → i < 16 → nat_abs (record_r rec i i) ≡ 0 → ⊥
  unfolding weights_refusal_of
  passed_diagonal = nonzero_of (record_r rec) (unless_passed (diagonal_nonzero_of (record_r rec)) 10 (first-none (record_refusal_of rec) _ e).1)
