-- Length and elements of `tabulate` and `filled`, and of lists of one element throughout. Assumes nothing.
use mathlib.Core.Path.{◌≡◌, refl, sym, ap, ◌∙◌, subst}
use mathlib.Core.List.{List, [], ◌∷◌, ◌++◌, append-nil}
use Prim.Native.Nat.{ℕ, zero, suc, ◌<◌, ◌≤◌}
use native.Mathlib.Nat.{not-suc-le-zero, le_of_suc-le-suc}
use native.Mathlib.Omega.{arith}
use lib.ListN.{length, get_or, set, take, drop, replicate, length-append, length-drop, drop_of_length-le, get_or-append}
use lib.Seq.{ext_get_or, drop_at}
use Rattle.lists.specs.Lists.{tabulate, filled}

module _ {A : Type 0} where
  pub length-tabulate : (n : ℕ) (f : ℕ → A) → length (tabulate n f) ≡ n
  unfolding tabulate
  length-tabulate zero f = refl
  length-tabulate (suc n) f = ap suc (length-tabulate n (λ k. f (suc k)))

  pub get_d_tabulate : (n : ℕ) (f : ℕ → A) (d : A) (k : ℕ) → k < n → get_or (tabulate n f) k d ≡ f k
  unfolding tabulate
  get_d_tabulate zero f d k l = absurd (not-suc-le-zero l)
  get_d_tabulate (suc n) f d zero l = refl
  get_d_tabulate (suc n) f d (suc k) l = get_d_tabulate n (λ i. f (suc i)) d k (le_of_suc-le-suc l)

  pub get_or-filled : (n : ℕ) (f : ℕ → A) (xs : List A) (d : A) (k : ℕ) → k < n → get_or (filled n f xs) k d ≡ f k
  unfolding filled
  get_or-filled n f xs d k l =
      get_or-append (tabulate n f) (drop n xs) d k (subst (λ (m : ℕ). k < m) (sym (length-tabulate n f)) l)
      ∙ get_d_tabulate n f d k l

  pub length-filled : (n : ℕ) (f : ℕ → A) (xs : List A) → n ≤ length xs → length (filled n f xs) ≡ length xs
  unfolding filled
  length-filled n f xs h =
      length-append (tabulate n f) (drop n xs)
      ∙ simp (length-tabulate, length-drop) (omega arith)

  -- a list is the table of its elements
  pub tabulate_is : (n : ℕ) (f : ℕ → A) (xs : List A) (d : A) → length xs ≡ n → ((k : ℕ) → k < n → f k ≡ get_or xs k d) → tabulate n f ≡ xs
  tabulate_is n f xs d e h =
      ext_get_or d (tabulate n f) xs (length-tabulate n f ∙ sym e)
      (λ k l. let b : k < n = subst (λ (m : ℕ). k < m) (length-tabulate n f) l in get_d_tabulate n f d k b ∙ h k b)

  -- one element throughout
  pub tabulate_one : (n : ℕ) (a : A) → tabulate n (λ k. a) ≡ replicate n a
  unfolding tabulate
  tabulate_one zero a = refl
  tabulate_one (suc n) a = ap (λ (l : List A). a ∷ l) (tabulate_one n a)

  pub take-replicate : (k n : ℕ) (a : A) → k ≤ n → take k (replicate n a) ≡ replicate k a
  take-replicate zero n a h = refl
  take-replicate (suc k) zero a h = absurd (not-suc-le-zero h)
  take-replicate (suc k) (suc n) a h = ap (λ (l : List A). a ∷ l) (take-replicate k n a (le_of_suc-le-suc h))

  -- what stands from an element on, after a store there
  pub drop-set_same : (xs : List A) (k : ℕ) (a : A) → k < length xs → drop k (set xs k a) ≡ a ∷ drop (suc k) xs
  drop-set_same [] k a h = absurd (not-suc-le-zero h)
  drop-set_same (x ∷ xs) zero a h = refl
  drop-set_same (x ∷ xs) (suc k) a h = drop-set_same xs k a (le_of_suc-le-suc h)

  -- no more than n elements are all replaced
  pub filled_all : (n : ℕ) (f : ℕ → A) (xs : List A) → length xs ≤ n → filled n f xs ≡ tabulate n f
  unfolding filled
  filled_all n f xs h = ap (λ (l : List A). tabulate n f ++ l) (drop_of_length-le xs h) ∙ append-nil (tabulate n f)

  -- what stands behind the first n elements is left
  pub drop-filled : (n : ℕ) (f : ℕ → A) (xs : List A) → drop n (filled n f xs) ≡ drop n xs
  unfolding filled
  drop-filled n f xs = drop_at (tabulate n f) (drop n xs) n (length-tabulate n f)
