-- A loop that writes the bytes of one number after another: what a part that is lent and comes back as those bytes makes of it. Assumes nothing.
use mathlib.Core.Path.{◌≡◌, refl, ap}
use mathlib.Core.List.{List, [], ◌∷◌, ◌++◌}
use Prim.Native.Nat.{ℕ, zero, suc, ◌+◌, ◌<◌, ◌≤◌}
use native.Mathlib.Nat.{not-suc-le-zero, le_of_suc-le-suc, add-zero}
use native.Mathlib.Numerals.{add-one}
use native.Mathlib.Omega.{arith}
use lib.ListN.{length, set, take, drop, take-append-drop}
use Rattle.lists.proofs.Filling.{Filling, fill_more}

-- the elements of t are f's values from k on
unfoldable pub Values : {A : Type 0} → (ℕ → A) → ℕ → List A → Type 0
Values f k [] = Unit {0}
Values f k (v ∷ t) = (v ≡ f k) × Values f (k + 1) t

-- the first element of a part that comes back, as a store
put_first : {A : Type 0} (a : List A) (k : ℕ) (v : A) (t : List A) (q : ℕ) → k < length a
    → take (suc k) (set a k v) ++ (t ++ drop q (drop (suc k) (set a k v))) ≡ take k a ++ (v ∷ (t ++ drop (suc q) (drop k a)))
put_first [] k v t q l = absurd (not-suc-le-zero l)
put_first (x ∷ a) zero v t q l = refl
put_first {A} (x ∷ a) (suc k) v t q l = ap (λ (r : List A). x ∷ r) (put_first a k v t q (le_of_suc-le-suc l))

-- the part behind the first k was lent and came back as t
pub fill_part : {A : Type 0} {n : ℕ} {f : ℕ → A} {d a : List A} {k : ℕ} (t : List A) → Filling n f d k a → k + length t ≤ n → n ≤ length d → Values f k t
    → Filling n f d (k + length t) (take k a ++ (t ++ drop (length t) (drop k a)))
unfolding Values
fill_part {a} {k} [] h within room v = rw (add-zero k, take-append-drop k a) h
fill_part {n} {f} {d} {a} {k} (x ∷ t) h within room v =
    let next : k + 1 + length t ≡ k + suc (length t) = omega arith in
    let i = fill_part {k = k + 1} t (fill_more h (omega arith) room v.0) (omega arith) room v.1 in
    rw (← put_first a k x t (length t) (omega (arith, h.kept)), ← add-one k) (rw next at i)
