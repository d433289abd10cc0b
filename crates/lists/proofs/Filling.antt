-- A loop that fills the first elements of a slice: its invariant, and what each store and the end make of it. Assumes nothing.
use mathlib.Core.Path.{◌≡◌, refl, ap, ◌∙◌}
use mathlib.Core.List.{List, [], ◌∷◌, ◌++◌}
use Prim.Native.Nat.{ℕ, zero, suc, ◌+◌, ◌<◌, ◌≤◌}
use native.Mathlib.Nat.{not-suc-le-zero, le_of_suc-le-suc}
use native.Mathlib.Numerals.{add-one}
use native.Mathlib.Omega.{arith}
use lib.ListN.{length, set, length-set}
use lib.Seq.{drop-set-lt}
use Rattle.lists.specs.Lists.{tabulate, filled}

-- a loop that fills the first n elements of d from f: a is the list with k of them filled
pub record Filling {A : Type 0} (n : ℕ) (f : ℕ → A) (d : List A) (k : ℕ) (a : List A) : Type 0 where
  pub within : k ≤ n
  pub kept : length a ≡ length d
  pub is : a ≡ filled k f d

pub fill_none : {A : Type 0} (n : ℕ) (f : ℕ → A) (d : List A) → Filling n f d 0 d
unfolding filled tabulate
fill_none n f d = record { within = omega arith; kept = refl; is = refl }

fill_suc : {A : Type 0} (k : ℕ) (f : ℕ → A) (d : List A) → k < length d → set (filled k f d) k (f k) ≡ filled (suc k) f d
unfolding filled tabulate
fill_suc k f [] l = absurd (not-suc-le-zero l)
fill_suc zero f (x ∷ d) l = refl
fill_suc {A} (suc k) f (x ∷ d) l =
    ap (λ (t : List A). f zero ∷ t) (fill_suc k (λ i. f (suc i)) d (le_of_suc-le-suc l))

-- one more store: v is f's value at k
pub fill_more : {A : Type 0} {n : ℕ} {f : ℕ → A} {d a : List A} {k : ℕ} {v : A} → Filling n f d k a → k < n → n ≤ length d → v ≡ f k → Filling n f d (k + 1) (set a k v)
fill_more {A} {n} {f} {d} {a} {k} {v} h l room e =
    let below : k < length d = omega arith in
    record {
      within = omega arith;
      kept = length-set a k v ∙ h.kept;
      is = rw (h.is, e, add-one) (fill_suc k f d below);
    }

-- the first store, before the loop
pub fill-first : {A : Type 0} (n : ℕ) (f : ℕ → A) (d : List A) (v : A) → 0 < n → 0 < length d → v ≡ f 0 → Filling n f (set d 0 v) 1 (set d 0 v)
unfolding filled tabulate
fill-first n f [] v h l e = absurd (not-suc-le-zero l)
fill-first {A} n f (x ∷ d) v h l e = record { within = omega arith; kept = refl; is = ap (λ (y : A). y ∷ d) e }

-- a store below n is overwritten
pub fill_over : {A : Type 0} (n : ℕ) (f : ℕ → A) (d : List A) (i : ℕ) (v : A) → i < n → filled n f (set d i v) ≡ filled n f d
unfolding filled
fill_over {A} n f d i v l = ap (λ (r : List A). tabulate n f ++ r) (drop-set-lt n d i v l)

-- two stores, and four
pub fill-two : {A : Type 0} {n : ℕ} {f : ℕ → A} {d a : List A} {k : ℕ} {v w : A} → Filling n f d k a → k + 2 ≤ n → n ≤ length d → v ≡ f k → w ≡ f (k + 1) → Filling n f d (k + 2) (set (set a k v) (k + 1) w)
fill-two {k} h l room e₀ e₁ =
    let two : k + 1 + 1 ≡ k + 2 = omega arith in
    rw two at (fill_more (fill_more h (omega arith) room e₀) (omega arith) room e₁)

pub fill_four : {A : Type 0} {n : ℕ} {f : ℕ → A} {d a : List A} {k : ℕ} {v w x y : A} → Filling n f d k a → k + 4 ≤ n → n ≤ length d → v ≡ f k → w ≡ f (k + 1) → x ≡ f (k + 2) → y ≡ f (k + 3) → Filling n f d (k + 4) (set (set (set (set a k v) (k + 1) w) (k + 2) x) (k + 3) y)
fill_four {k} h l room e₀ e₁ e₂ e₃ =
    let three : k + 2 + 1 ≡ k + 3 = omega arith in
    let four : k + 3 + 1 ≡ k + 4 = omega arith in
    let b = fill-two h (omega arith) room e₀ e₁ in
    let c = rw three at (fill_more b (omega arith) room e₂) in
    rw four at (fill_more c (omega arith) room e₃)

-- all n are filled
pub fill_done : {A : Type 0} {n : ℕ} {f : ℕ → A} {d a : List A} {k : ℕ} → Filling n f d k a → n ≤ k → a ≡ filled n f d
fill_done {A} {n} {f} {d} {a} {k} h l = let e : k ≡ n = omega arith in h.is ∙ ap (λ (m : ℕ). filled m f d) e
