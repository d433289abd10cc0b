-- Sums over the rows: equal terms, the first term, negatives, a common factor, two sums in one, one row taken out, two rows taken out, and bounds.
-- Assumes nothing.
use mathlib.Core.Path.{◌≡◌, refl, sym, ap, ◌∙◌, subst}
use mathlib.Core.Logic.{◌≢◌, ◌⊎◌, inl, inr}
use mathlib.Core.Bool.{Bool, cond}
use Prim.Native.Nat.{ℕ, zero, suc, ◌+◌, ◌*◌, ◌≤◌, ◌<◌}
use native.Mathlib.Nat.{add-zero, add-suc, le_refl, le_trans, eq-or-lt_of_le, le_of_suc-le-suc, not-suc-le-zero}
use native.Mathlib.Decide.{ℕ_discrete}
use native.Mathlib.Omega.{arith}
use lib.Dec.{eqb}
use borrow.Author.Tests.{eq-eqb, ne_eqb}
use lib.IntN.{ℤ, pos, neg_ℤ, nat_abs, ◌+ℤ◌, ◌*ℤ◌, +ℤ_assoc, +ℤ_comm, +ℤ_idl, +ℤ_idr, neg_ℤ-+ℤ, *ℤ-zero}
use Rattle.integers.specs.Sum.{sum, total}
use Rattle.integers.proofs.Laws.{swap_right, swap_left, *ℤ-distl, abs-+}

-- ---- equal terms

pub sum_equal : (n : ℕ) {f g : ℕ → ℤ} → ((r : ℕ) → r < n → f r ≡ g r) → sum n f ≡ sum n g
unfolding sum
sum_equal zero h = refl
sum_equal (suc n) {f} {g} h = ap (λ x. x +ℤ f n) (sum_equal n (λ r l. h r (omega arith))) ∙ ap (λ x. sum n g +ℤ x) (h n (le_refl (suc n)))

pub sum-zero : (n : ℕ) {f : ℕ → ℤ} → ((r : ℕ) → r < n → f r ≡ pos 0) → sum n f ≡ pos 0
unfolding sum
sum-zero zero h = refl
sum-zero (suc n) {f} h = ap (λ x. x +ℤ f n) (sum-zero n (λ r l. h r (omega arith))) ∙ +ℤ_idl (f n) ∙ h n (le_refl (suc n))

-- ---- other shapes

-- the first term taken out
pub sum_first : (n : ℕ) (f : ℕ → ℤ) → sum (suc n) f ≡ f 0 +ℤ sum n (λ r. f (suc r))
unfolding sum
sum_first zero f = +ℤ_idl (f 0) ∙ sym (+ℤ_idr (f 0))
sum_first (suc n) f = ap (λ x. x +ℤ f (suc n)) (sum_first n f) ∙ +ℤ_assoc (f 0) (sum n (λ r. f (suc r))) (f (suc n))

-- the negative of each term
pub sum-neg : (n : ℕ) (f : ℕ → ℤ) → sum n (λ r. neg_ℤ (f r)) ≡ neg_ℤ (sum n f)
unfolding sum
sum-neg zero f = refl
sum-neg (suc n) f = ap (λ x. x +ℤ neg_ℤ (f n)) (sum-neg n f) ∙ sym (neg_ℤ-+ℤ (sum n f) (f n))

-- a factor of each term
pub sum_times : (n : ℕ) (c : ℤ) (f : ℕ → ℤ) → sum n (λ r. c *ℤ f r) ≡ c *ℤ sum n f
unfolding sum
sum_times zero c f = sym (*ℤ-zero c)
sum_times (suc n) c f = ap (λ x. x +ℤ c *ℤ f n) (sum_times n c f) ∙ sym (*ℤ-distl c (sum n f) (f n))

-- two sums in one, and one sum cut in two
pub sum_plus : (n : ℕ) (f g : ℕ → ℤ) → sum n (λ r. f r +ℤ g r) ≡ sum n f +ℤ sum n g
unfolding sum
sum_plus zero f g = refl
sum_plus (suc n) f g =
    ap (λ x. x +ℤ (f n +ℤ g n)) (sum_plus n f g) ∙ +ℤ_assoc (sum n f) (sum n g) (f n +ℤ g n)
    ∙ ap (λ x. sum n f +ℤ x) (swap_left (sum n g) (f n) (g n)) ∙ sym (+ℤ_assoc (sum n f) (f n) (sum n g +ℤ g n))

pub sum_append : (m n : ℕ) (f : ℕ → ℤ) → sum (m + n) f ≡ sum m f +ℤ sum n (λ r. f (m + r))
unfolding sum
sum_append m zero f = ap (λ (k : ℕ). sum k f) (add-zero m) ∙ sym (+ℤ_idr (sum m f))
sum_append m (suc n) f =
    ap (λ (k : ℕ). sum k f) (add-suc m n) ∙ ap (λ x. x +ℤ f (m + n)) (sum_append m n f)
    ∙ +ℤ_assoc (sum m f) (sum n (λ r. f (m + r))) (f (m + n))

pub sum_halves : (n : ℕ) (f : ℕ → ℤ) → sum (n + n) f ≡ sum n (λ r. f r +ℤ f (n + r))
sum_halves n f = sum_append n n f ∙ sym (sum_plus n f (λ r. f (n + r)))

-- ---- a row taken out

-- f with 0 at row u
unfoldable pub without : ℕ → (ℕ → ℤ) → ℕ → ℤ
without u f r = cond (eqb r u) (pos 0) (f r)

pub without_here : (u : ℕ) (f : ℕ → ℤ) → without u f u ≡ pos 0
unfolding without
without_here u f = ap (λ (b : Bool). cond b (pos 0) (f u)) (eq-eqb u u refl)

pub without_other : (u : ℕ) (f : ℕ → ℤ) (r : ℕ) → r ≢ u → without u f r ≡ f r
unfolding without
without_other u f r h = ap (λ (b : Bool). cond b (pos 0) (f r)) (ne_eqb r u h)

-- the sum is that of the other rows, and row u
pub sum_without : (n : ℕ) (f : ℕ → ℤ) (u : ℕ) → u < n → sum n f ≡ sum n (without u f) +ℤ f u
unfolding sum
sum_without zero f u h = absurd (not-suc-le-zero h)
sum_without (suc n) f u h = pick (eq-or-lt_of_le (le_of_suc-le-suc h)) (sum_without n f u)
  where
    -- below row u nothing is taken out
    below : u ≡ n → (r : ℕ) → r < n → f r ≡ without u f r
    below e r l = sym (without_other u f r (λ q. omega arith))

    pick : (u ≡ n) ⊎ (u < n) → (u < n → sum n f ≡ sum n (without u f) +ℤ f u) → sum n f +ℤ f n ≡ sum n (without u f) +ℤ without u f n +ℤ f u
    pick (inl e) ih =
        ap (λ x. x +ℤ f n) (sum_equal n (below e))
        ∙ ap (λ x. x +ℤ f n) (sym (+ℤ_idr (sum n (without u f))) ∙ ap (λ x. sum n (without u f) +ℤ x) (sym (subst (λ (k : ℕ). without u f k ≡ pos 0) e (without_here u f))))
        ∙ ap (λ (k : ℕ). sum n (without u f) +ℤ without u f n +ℤ f k) (sym e)
    pick (inr l) ih =
        ap (λ x. x +ℤ f n) (ih l) ∙ swap_right (sum n (without u f)) (f u) (f n)
        ∙ ap (λ x. sum n (without u f) +ℤ x +ℤ f u) (sym (without_other u f n (λ q. omega arith)))

-- only one row counts
pub sum_one : (n : ℕ) (f : ℕ → ℤ) (u : ℕ) → u < n → ((r : ℕ) → r < n → r ≢ u → f r ≡ pos 0) → sum n f ≡ f u
sum_one n f u h rest = sum_without n f u h ∙ ap (λ x. x +ℤ f u) (sum-zero n gone) ∙ +ℤ_idl (f u)
  where
    either : (r : ℕ) → r < n → Dec (r ≡ u) → without u f r ≡ pos 0
    either r l (yes e) = subst (λ (k : ℕ). without u f k ≡ pos 0) (sym e) (without_here u f)
    either r l (no d) = without_other u f r d ∙ rest r l d

    gone : (r : ℕ) → r < n → without u f r ≡ pos 0
    gone r l = either r l (ℕ_discrete r u)

-- ---- two rows taken out

pub others : ℕ → ℕ → (ℕ → ℤ) → ℕ → ℤ
others u l f = without l (without u f)

pub sum_others : (n : ℕ) (f : ℕ → ℤ) (u l : ℕ) → u < l → l < n → sum n f ≡ sum n (others u l f) +ℤ (f u +ℤ f l)
unfolding others
sum_others n f u l h k =
    sum_without n f u (omega arith)
    ∙ ap (λ x. x +ℤ f u) (sum_without n (without u f) l k ∙ ap (λ x. sum n (without l (without u f)) +ℤ x) (without_other u f l (λ q. omega arith)))
    ∙ +ℤ_assoc (sum n (without l (without u f))) (f l) (f u)
    ∙ ap (λ x. sum n (without l (without u f)) +ℤ x) (+ℤ_comm (f l) (f u))

-- what is left does not see the two rows
pub others_equal : (n u l : ℕ) {f g : ℕ → ℤ} → ((r : ℕ) → r < n → r ≢ u → r ≢ l → f r ≡ g r) → sum n (others u l f) ≡ sum n (others u l g)
unfolding others
others_equal n u l {f} {g} h = sum_equal n (λ r q. pick r q (ℕ_discrete r u) (ℕ_discrete r l))
  where
    at_l : (k : ℕ → ℤ) (r : ℕ) → r ≡ l → without l k r ≡ pos 0
    at_l k r e = subst (λ (m : ℕ). without l k m ≡ pos 0) (sym e) (without_here l k)

    at_u : (k : ℕ → ℤ) (r : ℕ) → r ≢ l → r ≡ u → without l (without u k) r ≡ pos 0
    at_u k r d e = without_other l (without u k) r d ∙ subst (λ (m : ℕ). without u k m ≡ pos 0) (sym e) (without_here u k)

    away : (k : ℕ → ℤ) (r : ℕ) → r ≢ l → r ≢ u → without l (without u k) r ≡ k r
    away k r d c = without_other l (without u k) r d ∙ without_other u k r c

    pick : (r : ℕ) → r < n → Dec (r ≡ u) → Dec (r ≡ l) → without l (without u f) r ≡ without l (without u g) r
    pick r q p (yes e) = at_l (without u f) r e ∙ sym (at_l (without u g) r e)
    pick r q (yes e) (no d) = at_u f r d e ∙ sym (at_u g r d e)
    pick r q (no c) (no d) = away f r d c ∙ h r q c d ∙ sym (away g r d c)

-- ---- bounds

-- n terms of at most m
pub sum-abs : (n m : ℕ) (f : ℕ → ℤ) → ((r : ℕ) → r < n → nat_abs (f r) ≤ m) → nat_abs (sum n f) ≤ n * m
unfolding sum
sum-abs zero m f h = omega arith
sum-abs (suc n) m f h =
    le_trans (abs-+ (sum n f) (f n)) (omega (arith, sum-abs n m f (λ r l. h r (omega arith)), h n (le_refl (suc n))))

-- ---- sums of naturals

pub sum-total : (n : ℕ) (g : ℕ → ℕ) → sum n (λ r. pos (g r)) ≡ pos (total n g)
unfolding sum total
sum-total zero g = refl
sum-total (suc n) g = ap (λ x. x +ℤ pos (g n)) (sum-total n g)

-- only one term counts
pub total_one : (n : ℕ) (g : ℕ → ℕ) (u : ℕ) → u < n → ((r : ℕ) → r < n → r ≢ u → g r ≡ 0) → total n g ≡ g u
total_one n g u h rest = ap nat_abs (sym (sum-total n g) ∙ sum_one n (λ r. pos (g r)) u h (λ r l d. ap pos (rest r l d)))

-- the same terms have the same total
pub total_same : (n : ℕ) (f g : ℕ → ℕ) → ((k : ℕ) → k < n → f k ≡ g k) → total n f ≡ total n g
unfolding total
total_same zero f g h = refl
total_same (suc n) f g h = rw (total_same n f g (λ k p. h k (omega arith)), h n (le_refl (suc n)))

-- larger terms have a larger total
pub total_mono : (n : ℕ) (f g : ℕ → ℕ) → ((k : ℕ) → k < n → f k ≤ g k) → total n f ≤ total n g
unfolding total
total_mono zero f g h = le_refl 0
total_mono (suc n) f g h = omega (arith, total_mono n f g (λ k p. h k (omega arith)), h n (le_refl (suc n)))

pub total-zero : (n : ℕ) (g : ℕ → ℕ) → ((r : ℕ) → r < n → g r ≡ 0) → total n g ≡ 0
unfolding total
total-zero zero g h = refl
total-zero (suc n) g h = omega (arith, total-zero n g (λ r l. h r (omega arith)), h n (le_refl (suc n)))

-- n terms of at most m
pub total_le : (n m : ℕ) (g : ℕ → ℕ) → ((r : ℕ) → g r ≤ m) → total n g ≤ n * m
unfolding total
total_le zero m g h = omega arith
total_le (suc n) m g h = omega (arith, total_le n m g h, h n)

-- a term, and two terms, are at most the total
pub one_of_total : (n : ℕ) (g : ℕ → ℕ) (u : ℕ) → u < n → g u ≤ total n g
unfolding total
one_of_total zero g u h = absurd (not-suc-le-zero h)
one_of_total (suc n) g u h = pick (eq-or-lt_of_le (le_of_suc-le-suc h)) (one_of_total n g u)
  where
    pick : (u ≡ n) ⊎ (u < n) → (u < n → g u ≤ total n g) → g u ≤ total n g + g n
    pick (inl e) ih = omega (arith, ap g e)
    pick (inr l) ih = omega (arith, ih l)

pub two_of_total : (n : ℕ) (g : ℕ → ℕ) (u l : ℕ) → u < l → l < n → g u + g l ≤ total n g
unfolding total
two_of_total zero g u l h k = absurd (not-suc-le-zero k)
two_of_total (suc n) g u l h k = pick (eq-or-lt_of_le (le_of_suc-le-suc k)) (two_of_total n g u l h)
  where
    pick : (l ≡ n) ⊎ (l < n) → (l < n → g u + g l ≤ total n g) → g u + g l ≤ total n g + g n
    pick (inl e) ih = omega (arith, ap g e, one_of_total n g u (omega arith))
    pick (inr q) ih = omega (arith, ih q)
