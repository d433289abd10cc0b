-- A test on every number below a bound: the invariant of a loop that makes it, and what its outcome says. Assumes nothing.
use mathlib.Core.Path.{◌≡◌, refl, sym, ap, ◌∙◌, subst}
use mathlib.Core.Bool.{Bool, true, false, ◌&&◌}
use mathlib.Core.Logic.{⊎_elim}
use Prim.Native.Nat.{ℕ, zero, suc, ◌+◌, ◌-◌, ◌*◌, ◌/◌, ◌%◌, ◌<◌, ◌≤◌}
use native.Mathlib.Decide.{dec_lt}
use native.Mathlib.Nat.{le_refl, not-suc-le-zero, le_of_suc-le-suc, eq-or-lt_of_le}
use native.Mathlib.Numerals.{add-one}
use native.Mathlib.Omega.{arith}
use lib.Dec.{T}
use Rattle.lists.specs.Lists.{all_below}

-- a loop that tests every number below n: p held of those below k
pub record Passed (n : ℕ) (p : ℕ → Bool) (k : ℕ) : Type 0 where
  pub within : k ≤ n
  pub held : all_below k p ≡ true

pub pass_none : (n : ℕ) (p : ℕ → Bool) → Passed n p 0
unfolding all_below
pass_none n p = record { within = omega arith; held = refl }

pub pass_more : {n : ℕ} {p : ℕ → Bool} {k : ℕ} → Passed n p k → k < n → p k ≡ true → Passed n p (k + 1)
unfolding all_below
pass_more {n} {p} {k} h l e = record { within = omega arith; held = rw (add-one, e) h.held }

-- the test held of all
pub pass_done : {n : ℕ} {p : ℕ → Bool} {k : ℕ} → Passed n p k → n ≤ k → true ≡ all_below n p
pass_done {n} {p} {k} h l = let e : k ≡ n = omega arith in sym h.held ∙ ap (λ (m : ℕ). all_below m p) e

and_false : (b : Bool) → (b && false) ≡ false
and_false true = refl
and_false false = refl

fails : (p : ℕ → Bool) (n k : ℕ) → k < n → p k ≡ false → false ≡ all_below n p
unfolding all_below
fails p zero k l e = absurd (not-suc-le-zero l)
fails p (suc n) k l e =
    ⊎_elim (λ q. rw (subst (λ (m : ℕ). p m ≡ false) q e))
    (λ lt. rw (← fails p n k lt e) (sym (and_false (p n)))) (eq-or-lt_of_le (le_of_suc-le-suc l))

-- the test failed at k
pub pass_fails : {n : ℕ} {p : ℕ → Bool} {k : ℕ} → Passed n p k → k < n → p k ≡ false → false ≡ all_below n p
pass_fails {n} {p} {k} h l e = fails p n k l e

pub and_parts : (a b : Bool) → (a && b) ≡ true → (a ≡ true) × (b ≡ true)
and_parts true b h = (refl, h)
and_parts false b h = (h, absurd (subst T (sym h) tt))

-- a test that held of all holds of each
pub all_at : (p : ℕ → Bool) (n : ℕ) → all_below n p ≡ true → (k : ℕ) → k < n → p k ≡ true
unfolding all_below
all_at p zero h k l = absurd (not-suc-le-zero l)
all_at p (suc n) h k l =
    let a = and_parts (p n) (all_below n p) h in
    ⊎_elim (λ q. rw q a.0) (λ lt. all_at p n a.1 k lt) (eq-or-lt_of_le (le_of_suc-le-suc l))

-- tests that agree below n
pub all_same : (p q : ℕ → Bool) (n : ℕ) → ((k : ℕ) → k < n → p k ≡ q k) → all_below n p ≡ all_below n q
unfolding all_below
all_same p q zero e = refl
all_same p q (suc n) e =
    rw (e n (omega arith), all_same p q n (λ k l. e k (omega arith)))

-- a test that holds of each holds of all
pub all_of : (p : ℕ → Bool) (n : ℕ) → ((k : ℕ) → k < n → p k ≡ true) → all_below n p ≡ true
unfolding all_below
all_of p zero h = refl
all_of p (suc n) h = rw (h n (le_refl (suc n))) (all_of p n (λ k l. h k (omega arith)))

-- a test that held below k and holds after it goes by what it is at k
pub pass_last : {n : ℕ} {p : ℕ → Bool} {k : ℕ} → Passed n p k → k < n → ((j : ℕ) → k < j → p j ≡ true) → p k ≡ all_below n p
pass_last {n} {p} {k} h l f = go (p k) refl
  where
    each : p k ≡ true → (j : ℕ) → Dec (j < k) → Dec (k < j) → p j ≡ true
    each e j (yes a) b = all_at p k h.held j a
    each e j (no a) (yes b) = f j b
    each e j (no a) (no b) = let q : k ≡ j = omega arith in subst (λ (t : ℕ). p t ≡ true) q e

    go : (b : Bool) → p k ≡ b → b ≡ all_below n p
    go true e = sym (all_of p n (λ j a. each e j (dec_lt j k) (dec_lt k j)))
    go false e = fails p n k l e

-- ---- a test in runs of m

-- one run more, of which each holds
pub pass_run : {n : ℕ} {p : ℕ → Bool} {k : ℕ} (m : ℕ) → Passed n p k → k + m ≤ n → ((j : ℕ) → j < m → p (k + j) ≡ true) → Passed n p (k + m)
pass_run {n} {p} {k} m h l f = record { within = l; held = all_of p (k + m) (λ i a. either i a (dec_lt i k)) }
  where
    either : (i : ℕ) → i < k + m → Dec (i < k) → p i ≡ true
    either i a (yes b) = all_at p k h.held i b
    either i a (no b) = let e : k + (i - k) ≡ i = omega arith in subst (λ (t : ℕ). p t ≡ true) e (f (i - k) (omega arith))

-- a run of which one does not hold
pub run_fails : (p : ℕ → Bool) (n k m : ℕ) → k + m ≤ n → all_below m (λ j. p (k + j)) ≡ false → false ≡ all_below n p
run_fails p n k m l e = go (all_below n p) refl
  where
    go : (b : Bool) → all_below n p ≡ b → false ≡ b
    go false h = refl
    go true h = sym e ∙ all_of (λ j. p (k + j)) m (λ j a. all_at p n h (k + j) (omega arith))

-- ---- a test of 16 rows and columns by number: number p is row p / 16, column p % 16

pub pairs_at : (p : ℕ → ℕ → Bool) → all_below 256 (λ n. p (n / 16) (n % 16)) ≡ true → (i j : ℕ) → i < 16 → j < 16 → p i j ≡ true
pairs_at p h i j a b =
    let row : (i * 16 + j) / 16 ≡ i = omega arith in
    let column : (i * 16 + j) % 16 ≡ j = omega arith in
    rw (row, column) at (all_at (λ n. p (n / 16) (n % 16)) 256 h (i * 16 + j) (omega arith))

pub pairs_of : (p : ℕ → ℕ → Bool) → ((i j : ℕ) → i < 16 → j < 16 → p i j ≡ true) → all_below 256 (λ n. p (n / 16) (n % 16)) ≡ true
pairs_of p h = all_of (λ n. p (n / 16) (n % 16)) 256 (λ n a. h (n / 16) (n % 16) (omega arith) (omega arith))
