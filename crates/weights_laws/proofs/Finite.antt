-- No weight is a NaN or an infinity: when n rows are worked each component is at most 2 ^ (50 + 46 n), which after 16 rows lies far below 2 ^ 1024.
-- Assumes nothing.
use mathlib.Core.Path.{◌≡◌, refl, sym, subst}
use mathlib.Core.Bool.{Bool, true, false, cond}
use mathlib.Core.List.{List}
use Prim.Native.Nat.{ℕ, zero, suc, ◌+◌, ◌*◌, ◌-◌, ◌^◌, ◌≤◌, ◌<◌, zero-le}
use native.Mathlib.Decide.{dec_lt}
use native.Mathlib.Omega.{arith}
use borrow.Author.Tests.{eqb-true, eqb-false, lt-ltb, le-ltb}
use lib.Dec.{eqb, ltb}
use lib.Ieee.{Float, nan, binary64, sub, mul}
use lib.IntN.{ℤ, pos, nat_abs, ◌*ℤ◌}
use lib.ListN.{length, set, get_or-replicate}
use lib.Seq.{get_or-set_same, get_or-set_other}
use mir.Syntax.{w16, w32}
use mir.Val.{SFits}
use Rattle.integers.specs.Matrix.{Matrix}
use Rattle.integers.proofs.Sum.{sum-abs}
use Rattle.integers.proofs.Within.{within-*, fits_within}
use Rattle.result_record.specs.ResultRecord.{record_r, record_q}
use Rattle.result_record.proofs.ResultRecord.{r_fits, q_fits}
use Rattle.covariance.specs.declared.Sample.{Sample}
use Rattle.covariance.specs.Sums.{sample_of}
use Rattle.weights.specs.Solution.{float, target_part_of, right_sum_of, right_side_of, row_left_of, row_component_of, component_of, zero_float, worked_rows}
use Rattle.weights.specs.Weights.{weights_refusal_of}
use Rattle.weights_laws.specs.Replies.{Targets16, weight_at_of}
use Rattle.weights_laws.specs.Finite.{AtMost, Finite}
use Rattle.weights_laws.proofs.Magnitude.{AtLeastOne, weaker, most-mul, most-sub, most-div, most_int, one_int}
use Rattle.weights_laws.proofs.Rows.{rows-length}
use Rattle.weights_laws.proofs.Answers.{solved_weight, refused_weight, passed_diagonal}

-- ---- the parts of the target

part_fits : (targets : List Sample) → Targets16 targets → (j : ℕ) → SFits w16 (target_part_of targets j)
unfolding target_part_of
part_fits targets t j = go (dec_lt j 8)
  where
    go : Dec (j < 8) → SFits w16 (cond (ltb j 8) (sample_of targets j).re (sample_of targets (j - 8)).im)
    go (yes l) = rw (lt-ltb j 8 l) (t j).0
    go (no l) = rw (le-ltb j 8 (omega arith)) (t (j - 8)).1

-- ---- the rows of two matrices of 32-bit words, with no 0 on R's diagonal

-- every component is at most 2 ^ b
abbrev AllAtMost : List Float → ℕ → Type 0
AllAtMost x b = (k : ℕ) → k < 16 → AtMost (component_of x k) b

zero-most : (k : ℕ) → AtMost zero_float k
zero-most k = zero-le

-- one of them replaced
replaced : (x : List Float) (i b : ℕ) (y : Float) → i < length x → AtMost y b → AllAtMost x b → AllAtMost (set x i y) b
replaced x i b y h p q k l = go (eqb k i) refl
  where
    go : (t : Bool) → eqb k i ≡ t → AtMost (component_of (set x i y) k) b
    go true e = subst (λ (m : ℕ). AtMost (component_of (set x i y) m) b) (sym (eqb-true k i e)) (subst (λ (z : Float). AtMost z b) (sym (get_or-set_same x i y nan h)) p)
    go false e = subst (λ (z : Float). AtMost z b) (sym (get_or-set_other x i k y nan (eqb-false k i e))) (q k l)

module _ (r q : Matrix) (t : ℕ → ℤ) (r_fits : (i j : ℕ) → SFits w32 (r i j)) (q_fits : (i j : ℕ) → SFits w32 (q i j)) (t-fits : (j : ℕ) → SFits w16 (t j))
    (full : (i : ℕ) → i < 16 → nat_abs (r i i) ≡ 0 → ⊥) where
  -- 16 products of at most 2^46 each
  sum-small : (i : ℕ) → nat_abs (right_sum_of q t i) ≤ 2 ^ 50
  unfolding right_sum_of
  sum-small i =
      sum-abs 16 (2 ^ 46) (λ j. q j i *ℤ t j) (λ j h. (within-* (fits_within (q_fits j i)) (fits_within (t-fits j))).abs)

  right_most : (i : ℕ) → AtMost (right_side_of q t i) 50
  unfolding right_side_of
  right_most i =
      most-div (float (right_sum_of q t i)) (float (pos 131072)) 50 (most_int (right_sum_of q t i) 50 (sum-small i) (omega arith))
      (one_int (pos 131072) (omega arith) (λ e. omega arith)) (omega arith)

  r-most : (i j : ℕ) → AtMost (float (r i j)) 31
  r-most i j = most_int (r i j) 31 (fits_within (r_fits i j)).abs (omega arith)

  diagonal_one : (i : ℕ) → i < 16 → AtLeastOne (float (r i i))
  diagonal_one i h = one_int (r i i) (omega (arith, (fits_within (r_fits i i)).abs)) (full i h)

  left-most : (x : List Float) (b i n : ℕ) → AllAtMost x b → 19 ≤ b → i + n < 16 → 31 + b + n ≤ 1023 → AtMost (row_left_of r (component_of x) i (right_side_of q t i) n) (31 + b + n)
  unfolding row_left_of
  left-most x b i zero a h l m = weaker (right_side_of q t i) (right_most i) (omega arith)
  left-most x b i (suc n) a h l m =
      let y = component_of x (i + 1 + n) in
      let s = row_left_of r (component_of x) i (right_side_of q t i) n in
      let p = mul binary64 (float (r i (i + 1 + n))) y in
      let f = most-mul (float (r i (i + 1 + n))) y 31 b (r-most i (i + 1 + n)) (a (i + 1 + n) (omega arith)) (omega arith) in
      let d = most-sub s p (31 + b + n) (left-most x b i n a h (omega arith) (omega arith)) (weaker p f (omega arith)) (omega arith) in
      weaker (sub binary64 s p) d (omega arith)

  component_most : (x : List Float) (b i : ℕ) → AllAtMost x b → 19 ≤ b → i < 16 → b + 46 ≤ 1023 → AtMost (row_component_of r q t (component_of x) i) (b + 46)
  unfolding row_component_of
  component_most x b i a h l m =
      let s = row_left_of r (component_of x) i (right_side_of q t i) (15 - i) in
      most-div s (float (r i i)) (b + 46) (weaker s (left-most x b i (15 - i) a h (omega arith) (omega arith)) (omega arith)) (diagonal_one i l) m

  rows-most : (n : ℕ) → n ≤ 16 → AllAtMost (worked_rows r q t n) (50 + 46 * n)
  unfolding worked_rows
  rows-most zero l k h = rw (get_or-replicate 16 k zero_float nan h) (zero-most 50)
  rows-most (suc n) l k h =
      let x = worked_rows r q t n in
      let y = row_component_of r q t (component_of x) (15 - n) in
      let room : 15 - n < length x = rw (rows-length r q t n) (omega arith) in
      let worked = rows-most n (omega arith) in
      let new = component_most x (50 + 46 * n) (15 - n) worked (omega arith) (omega arith) (omega arith) in
      replaced x (15 - n) (50 + 46 * suc n) y room (weaker y new (omega arith)) (λ m a. weaker (component_of x m) (worked m a) (omega arith)) k h

-- ---- a record

pub finite : Finite
finite rec targets b t k h = go (weights_refusal_of rec) refl
  where
    go : (n : ℕ) → weights_refusal_of rec ≡ n → AtMost (weight_at_of rec targets k).re (50 + 46 * 16) × AtMost (weight_at_of rec targets k).im (50 + 46 * 16)
    go zero e =
        let full = passed_diagonal rec e in
        let most = rows-most (record_r rec) (record_q rec) (target_part_of targets) (r_fits rec b) (q_fits rec b) (part_fits targets t) full 16 (omega arith) in
        rw (solved_weight rec targets e k h) (most k (omega arith), most (8 + k) (omega arith))
    go (suc n) e = rw (refused_weight rec targets (λ z. omega (arith, e, z)) k h) (zero-most 786, zero-most 786)
