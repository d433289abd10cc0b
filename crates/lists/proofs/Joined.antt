-- Lists one behind another, each of one length: their length, each of them by its place, and a loop that writes one a turn. Assumes nothing.
use mathlib.Core.Path.{◌≡◌, refl, sym, ap, ap₂, ◌∙◌}
use mathlib.Core.List.{List, [], ◌∷◌, ◌++◌, append_assoc, append-nil}
use mathlib.Core.Logic.{⊎_elim}
use Prim.Native.Nat.{ℕ, zero, suc, ◌+◌, ◌*◌, ◌≤◌, ◌<◌}
use native.Mathlib.Nat.{not-suc-le-zero, le_of_suc-le-suc, eq-or-lt_of_le, mul-zero, mul-suc, mul-le-mul_left}
use native.Mathlib.Numerals.{add-one}
use native.Mathlib.Omega.{arith}
use lib.ListN.{length, set, take, drop, length-append, length-drop, drop_of_length-le}
use lib.Seq.{take_all, take-append-le, drop-append-le, take_at, drop_at, drop-drop, set_split}
use Rattle.lists.specs.Lists.{joined}

-- lists that agree
pub joined_same : {A : Type 0} (n : ℕ) (f g : ℕ → List A) → ((j : ℕ) → j < n → f j ≡ g j) → joined n f ≡ joined n g
unfolding joined
joined_same zero f g h = refl
joined_same {A} (suc n) f g h =
    ap₂ (λ (a b : List A). a ++ b) (joined_same n f g (λ j l. h j (omega arith))) (h n (omega arith))

module _ {A : Type 0} (size : ℕ) (f : ℕ → List A) (sized : (j : ℕ) → length (f j) ≡ size) where
  pub joined_length : (n : ℕ) → length (joined n f) ≡ size * n
  unfolding joined
  joined_length zero = sym (mul-zero size)
  joined_length (suc n) =
      length-append (joined n f) (f n) ∙ ap₂ (λ (a b : ℕ). a + b) (joined_length n) (sized n) ∙ sym (mul-suc size n)

  -- list j stands where it should
  pub joined_at : (n j : ℕ) → j < n → take size (drop (size * j) (joined n f)) ≡ f j
  unfolding joined
  joined_at zero j l = absurd (not-suc-le-zero l)
  joined_at (suc n) j l = ⊎_elim last (λ k. earlier k (joined_at n j k)) (eq-or-lt_of_le (le_of_suc-le-suc l))
    where
      last : j ≡ n → take size (drop (size * j) (joined n f ++ f n)) ≡ f j
      last e = rw e (ap (take size) (drop_at (joined n f) (f n) (size * n) (joined_length n)) ∙ take_all size (f n) (omega (arith, sized n)))

      earlier : j < n → take size (drop (size * j) (joined n f)) ≡ f j → take size (drop (size * j) (joined n f ++ f n)) ≡ f j
      earlier k e =
          let g = joined_length n in
          let m : size * suc j ≤ size * n = mul-le-mul_left size k in
          let u = mul-suc size j in
          let a : size * j ≤ length (joined n f) = omega (arith, g, m, u) in
          let b : size ≤ length (drop (size * j) (joined n f)) = rw (length-drop (size * j) (joined n f)) (omega (arith, g, m, u)) in
          ap (take size) (drop-append-le (size * j) (joined n f) (f n) a)
          ∙ take-append-le size (drop (size * j) (joined n f)) (f n) b
          ∙ e

-- what is lent behind s and comes back as t stands behind s
pub put_behind : {A : Type 0} (s t d : List A) (n k : ℕ) → length s ≡ n
    → take n (s ++ drop n d) ++ (t ++ drop k (drop n (s ++ drop n d))) ≡ (s ++ t) ++ drop (n + k) d
put_behind {A} s t d n k e =
    ap₂ (λ (x y : List A). x ++ (t ++ drop k y)) (take_at s (drop n d) n e) (drop_at s (drop n d) n e)
    ∙ ap (λ (x : List A). s ++ (t ++ x)) (drop-drop k n d)
    ∙ sym (append_assoc s t (drop (n + k) d))

-- one element behind s
pub put_one : {A : Type 0} (s d : List A) (n : ℕ) (v : A) → length s ≡ n → n < length d → set (s ++ drop n d) n v ≡ (s ++ v ∷ []) ++ drop (n + 1) d
put_one {A} s d n v e room =
    let size : length (s ++ drop n d) ≡ length d = length-append s (drop n d) ∙ rw (e, length-drop n d) (omega arith) in
    let rest : drop (suc n) (s ++ drop n d) ≡ drop (n + 1) d =
    sym (drop-drop 1 n (s ++ drop n d) ∙ ap (λ (k : ℕ). drop k (s ++ drop n d)) (add-one n)) ∙ ap (drop 1) (drop_at s (drop n d) n e) ∙ drop-drop 1 n d in
    set_split (s ++ drop n d) n v (omega arith)
    ∙ ap₂ (λ (x y : List A). x ++ v ∷ y) (take_at s (drop n d) n e) rest
    ∙ sym (append_assoc s (v ∷ []) (drop (n + 1) d))

-- a is d with the first j lists of f written over its start, each of one length
pub record Joining {A : Type 0} (size : ℕ) (f : ℕ → List A) (d : List A) (j : ℕ) (a : List A) : Type 0 where
  pub kept : length a ≡ length d
  pub long : length (joined j f) ≡ size * j
  pub is : a ≡ joined j f ++ drop (size * j) d

pub join_none : {A : Type 0} (size : ℕ) (f : ℕ → List A) (d : List A) → Joining size f d 0 d
unfolding joined
join_none {A} size f d =
    record {
      kept = refl;
      long = sym (mul-zero size);
      is = ap (λ (n : ℕ). drop n d) (sym (mul-zero size));
    }

-- one more: the part behind the first j, of length k, was lent and came back as list j
pub join_more : {A : Type 0} {size : ℕ} {f : ℕ → List A} {d a : List A} {j : ℕ} (k : ℕ) (t : List A) → Joining size f d j a
    → k ≡ size → t ≡ f j → length (f j) ≡ size → size * j + size ≤ length d
    → Joining size f d (j + 1) (take (size * j) a ++ (t ++ drop k (drop (size * j) a)))
unfolding joined
join_more {A} {size} {f} {d} {a} {j} k t s e g m room =
    let next : size * j + size ≡ size * (j + 1) = sym (mul-suc size j) ∙ ap (λ (n : ℕ). size * n) (sym (add-one j)) in
    let long : length (joined (j + 1) f) ≡ size * (j + 1) =
    rw (add-one j) (length-append (joined j f) (f j) ∙ ap₂ (λ (x y : ℕ). x + y) s.long m ∙ sym (mul-suc size j)) in
    let is : take (size * j) a ++ (t ++ drop k (drop (size * j) a)) ≡ joined (j + 1) f ++ drop (size * (j + 1)) d =
    ap (λ (x : List A). take (size * j) x ++ (t ++ drop k (drop (size * j) x))) s.is
    ∙ ap₂ (λ (n : ℕ) (x : List A). take (size * j) (joined j f ++ drop (size * j) d) ++ (x ++ drop n (drop (size * j) (joined j f ++ drop (size * j) d)))) e g
    ∙ put_behind (joined j f) (f j) d (size * j) size s.long
    ∙ ap₂ (λ (n m : ℕ). joined n f ++ drop m d) (sym (add-one j)) next in
    record {
      kept = ap length is ∙ length-append (joined (j + 1) f) (drop (size * (j + 1)) d) ∙ rw (long, length-drop (size * (j + 1)) d) (omega arith);
      long = long;
      is = is;
    }

-- all of them, where d has no more room
pub join_done : {A : Type 0} {size : ℕ} {f : ℕ → List A} {d a : List A} {j : ℕ} → Joining size f d j a → length d ≤ size * j → a ≡ joined j f
join_done {A} {size} {f} {d} {a} {j} s h = s.is ∙ ap (λ (x : List A). joined j f ++ x) (drop_of_length-le d h) ∙ append-nil (joined j f)

-- and one element behind them, for which alone d has room
pub join_last : {A : Type 0} {size : ℕ} {f : ℕ → List A} {d a : List A} {j : ℕ} (v : A) → Joining size f d j a
    → length d ≡ size * j + 1 → set a (size * j) v ≡ joined j f ++ v ∷ []
join_last {A} {size} {f} {d} {a} {j} v s h =
    ap (λ (x : List A). set x (size * j) v) s.is
    ∙ put_one (joined j f) d (size * j) v s.long (omega arith)
    ∙ ap (λ (x : List A). (joined j f ++ v ∷ []) ++ x) (drop_of_length-le d {i = size * j + 1} (omega arith))
    ∙ append-nil (joined j f ++ v ∷ [])
