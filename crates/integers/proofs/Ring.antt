-- A ring solver for ℤ, by reflection. An identity between two polynomials is written once more as terms of `Expr`. It holds where the
-- normal form of the difference has no coefficient but zero, which is computed, and `tt` says that it is so:
--   ring (a ∷ b ∷ []) (λ a b. (a ⊕ b) ⊗ (a ⊝ b) ≐ a ⊗ a ⊝ b ⊗ b) tt : (a +ℤ b) *ℤ (a -ℤ b) ≡ a *ℤ a -ℤ b *ℤ b
-- `combine` proves an equation from equations that are given, and `lin` an order from orders, each with how often it is used.
-- Assumes nothing.
use mathlib.Core.Path.{◌≡◌, refl, sym, ◌∙◌, ap, ap₂}
use mathlib.Core.Bool.{Bool, true, false, ◌&&◌}
use mathlib.Core.List.{List, [], ◌∷◌}
use Prim.Native.Nat.{ℕ, zero, suc, ◌+◌, ◌*◌, compare, Ordering}
use lib.Dec.{T, leb, compare_is_eq, eqb→eq}
use lib.IntN.{ℤ, pos, negsuc, neg_ℤ, nat_abs, ◌+ℤ◌, ◌-ℤ◌, ◌*ℤ◌, +ℤ_idl, +ℤ_idr, +ℤ_assoc, +ℤ_comm, zero-*ℤ, *ℤ-zero, *ℤ_comm, neg_ℤ-+ℤ, +ℤ_invr, -ℤ-+ℤ_cancel, +ℤ-neg_ℤ_cancel}
use lib.Signed.{◌≤ℤ◌, non_neg, pos-nat_abs}
use Rattle.integers.proofs.Laws.{swap_left, *ℤ-distr, *ℤ-distl, neg-*ℤ, *ℤ-assoc, one-*ℤ, swap_mul, swap_inner_mul, eq_of_sub}
use Rattle.integers.proofs.Order.{≤-gap, ≤-by}

-- ---- what is solved: polynomials in numbered variables
infixl 6 ◌⊕◌ ◌⊝◌
infixl 7 ◌⊗◌
pub data Expr : Type 0 where
  var : ℕ → Expr
  con : ℤ → Expr
  ◌⊕◌ ◌⊝◌ ◌⊗◌ : Expr → Expr → Expr
  neg : Expr → Expr

abbrev pub at : List ℤ → ℕ → ℤ
at [] n = pos 0
at (x ∷ ρ) zero = x
at (x ∷ ρ) (suc n) = at ρ n

abbrev pub eval : List ℤ → Expr → ℤ
eval ρ (var n) = at ρ n
eval ρ (con z) = z
eval ρ (a ⊕ b) = eval ρ a +ℤ eval ρ b
eval ρ (a ⊝ b) = eval ρ a -ℤ eval ρ b
eval ρ (a ⊗ b) = eval ρ a *ℤ eval ρ b
eval ρ (neg a) = neg_ℤ (eval ρ a)

-- ---- the normal form: terms sorted by their monomials, a monomial a sorted list of variables
pub data Poly : Type 0 where
  end : Poly
  term : ℤ → List ℕ → Poly → Poly

abbrev mon : List ℤ → List ℕ → ℤ
mon ρ [] = pos 1
mon ρ (v ∷ m) = at ρ v *ℤ mon ρ m

abbrev val : List ℤ → Poly → ℤ
val ρ end = pos 0
val ρ (term c m p) = c *ℤ mon ρ m +ℤ val ρ p

abbrev pub put : Bool → ℕ → ℕ → List ℕ → List ℕ → List ℕ
put true v w m r = v ∷ w ∷ m
put false v w m r = w ∷ r

abbrev pub insert : ℕ → List ℕ → List ℕ
insert v [] = v ∷ []
insert v (w ∷ m) = let r = insert v m in put (leb v w) v w m r

abbrev pub mul_mon : List ℕ → List ℕ → List ℕ
mul_mon [] n = n
mul_mon (v ∷ m) n = insert v (mul_mon m n)

abbrev pub on_eq : Ordering → Ordering → Ordering
on_eq Ordering.lt o = Ordering.lt
on_eq Ordering.eq o = o
on_eq Ordering.gt o = Ordering.gt

abbrev pub order : List ℕ → List ℕ → Ordering
order [] [] = Ordering.eq
order [] (w ∷ n) = Ordering.lt
order (v ∷ m) [] = Ordering.gt
order (v ∷ m) (w ∷ n) = let o = order m n in on_eq (compare v w) o

abbrev pub place : Ordering → ℤ → List ℕ → ℤ → List ℕ → Poly → Poly → Poly
place Ordering.lt c m d n p r = term c m (term d n p)
place Ordering.eq c m d n p r = term (c +ℤ d) n p
place Ordering.gt c m d n p r = term d n r

abbrev pub add_term : ℤ → List ℕ → Poly → Poly
add_term c m end = term c m end
add_term c m (term d n p) = let r = add_term c m p in place (order m n) c m d n p r

abbrev pub add : Poly → Poly → Poly
add end q = q
add (term c m p) q = add_term c m (add p q)

abbrev pub mul_term : ℤ → List ℕ → Poly → Poly
mul_term c m end = end
mul_term c m (term d n p) = add_term (c *ℤ d) (mul_mon m n) (mul_term c m p)

abbrev pub mul : Poly → Poly → Poly
mul end q = end
mul (term c m p) q = add (mul_term c m q) (mul p q)

abbrev pub negate : Poly → Poly
negate end = end
negate (term c m p) = term (neg_ℤ c) m (negate p)

abbrev pub norm : Expr → Poly
norm (var n) = term (pos 1) (n ∷ []) end
norm (con z) = term z [] end
norm (a ⊕ b) = add (norm a) (norm b)
norm (a ⊝ b) = add (norm a) (negate (norm b))
norm (a ⊗ b) = mul (norm a) (norm b)
norm (neg a) = negate (norm a)

abbrev pub is_zero : ℤ → Bool
is_zero (pos zero) = true
is_zero (pos (suc n)) = false
is_zero (negsuc n) = false

abbrev pub all_zero : Poly → Bool
all_zero end = true
all_zero (term c m p) = is_zero c && all_zero p

abbrev pub leftover : Poly → Bool
leftover end = true
leftover (term c [] p) = non_neg c && leftover p
leftover (term c (v ∷ m) p) = is_zero c && leftover p

-- ---- it is sound
module _ (ρ : List ℤ) where
  insert_val : (v : ℕ) (m : List ℕ) → mon ρ (insert v m) ≡ at ρ v *ℤ mon ρ m
  insert_val v [] = refl
  insert_val v (w ∷ m) = go (leb v w) (insert_val v m)
    where
      go : (b : Bool) → mon ρ (insert v m) ≡ at ρ v *ℤ mon ρ m → mon ρ (put b v w m (insert v m)) ≡ at ρ v *ℤ (at ρ w *ℤ mon ρ m)
      go true h = refl
      go false h = ap (λ x. at ρ w *ℤ x) h ∙ swap_mul (at ρ w) (at ρ v) (mon ρ m)

  mul_mon_val : (m n : List ℕ) → mon ρ (mul_mon m n) ≡ mon ρ m *ℤ mon ρ n
  mul_mon_val [] n = sym (one-*ℤ (mon ρ n))
  mul_mon_val (v ∷ m) n = insert_val v (mul_mon m n) ∙ ap (λ x. at ρ v *ℤ x) (mul_mon_val m n) ∙ sym (*ℤ-assoc (at ρ v) (mon ρ m) (mon ρ n))

  -- the order decides nothing of the value but that two monomials are one
  order_eq : (m n : List ℕ) → T (compare_is_eq (order m n)) → m ≡ n
  order_eq [] [] t = refl
  order_eq [] (w ∷ n) t = absurd t
  order_eq (v ∷ m) [] t = absurd t
  order_eq (v ∷ m) (w ∷ n) t = go (compare v w) (eqb→eq v w) (order_eq m n) t
    where
      go : (o : Ordering) → (T (compare_is_eq o) → v ≡ w) → (T (compare_is_eq (order m n)) → m ≡ n) → T (compare_is_eq (on_eq o (order m n))) → v ∷ m ≡ w ∷ n
      go Ordering.lt e f u = absurd u
      go Ordering.eq e f u = ap₂ ◌∷◌ (e tt) (f u)
      go Ordering.gt e f u = absurd u

  place_val : (o : Ordering) (c : ℤ) (m : List ℕ) (d : ℤ) (n : List ℕ) (p r : Poly) → (T (compare_is_eq o) → m ≡ n) → val ρ r ≡ c *ℤ mon ρ m +ℤ val ρ p
      → val ρ (place o c m d n p r) ≡ c *ℤ mon ρ m +ℤ (d *ℤ mon ρ n +ℤ val ρ p)
  place_val Ordering.lt c m d n p r e h = refl
  place_val Ordering.eq c m d n p r e h =
      ap (λ x. x +ℤ val ρ p) (*ℤ-distr c d (mon ρ n) ∙ ap (λ x. c *ℤ mon ρ x +ℤ d *ℤ mon ρ n) (sym (e tt))) ∙ +ℤ_assoc (c *ℤ mon ρ m) (d *ℤ mon ρ n) (val ρ p)
  place_val Ordering.gt c m d n p r e h = ap (λ x. d *ℤ mon ρ n +ℤ x) h ∙ swap_left (d *ℤ mon ρ n) (c *ℤ mon ρ m) (val ρ p)

  add_term_val : (c : ℤ) (m : List ℕ) (p : Poly) → val ρ (add_term c m p) ≡ c *ℤ mon ρ m +ℤ val ρ p
  add_term_val c m end = refl
  add_term_val c m (term d n p) = place_val (order m n) c m d n p (add_term c m p) (order_eq m n) (add_term_val c m p)

  add_val : (p q : Poly) → val ρ (add p q) ≡ val ρ p +ℤ val ρ q
  add_val end q = sym (+ℤ_idl (val ρ q))
  add_val (term c m p) q = add_term_val c m (add p q) ∙ ap (λ x. c *ℤ mon ρ m +ℤ x) (add_val p q) ∙ sym (+ℤ_assoc (c *ℤ mon ρ m) (val ρ p) (val ρ q))

  mul_term_val : (c : ℤ) (m : List ℕ) (p : Poly) → val ρ (mul_term c m p) ≡ (c *ℤ mon ρ m) *ℤ val ρ p
  mul_term_val c m end = sym (*ℤ-zero (c *ℤ mon ρ m))
  mul_term_val c m (term d n p) =
      add_term_val (c *ℤ d) (mul_mon m n) (mul_term c m p)
      ∙ ap₂ (λ x y. x +ℤ y) (ap (λ x. (c *ℤ d) *ℤ x) (mul_mon_val m n) ∙ swap_inner_mul c d (mon ρ m) (mon ρ n)) (mul_term_val c m p)
      ∙ sym (*ℤ-distl (c *ℤ mon ρ m) (d *ℤ mon ρ n) (val ρ p))

  mul_val : (p q : Poly) → val ρ (mul p q) ≡ val ρ p *ℤ val ρ q
  mul_val end q = sym (zero-*ℤ (val ρ q))
  mul_val (term c m p) q =
      add_val (mul_term c m q) (mul p q) ∙ ap₂ (λ x y. x +ℤ y) (mul_term_val c m q) (mul_val p q) ∙ sym (*ℤ-distr (c *ℤ mon ρ m) (val ρ p) (val ρ q))

  negate_val : (p : Poly) → val ρ (negate p) ≡ neg_ℤ (val ρ p)
  negate_val end = refl
  negate_val (term c m p) = ap₂ (λ x y. x +ℤ y) (neg-*ℤ c (mon ρ m)) (negate_val p) ∙ sym (neg_ℤ-+ℤ (c *ℤ mon ρ m) (val ρ p))

  norm_val : (a : Expr) → val ρ (norm a) ≡ eval ρ a
  norm_val (var n) = +ℤ_idr (pos 1 *ℤ (at ρ n *ℤ pos 1)) ∙ one-*ℤ (at ρ n *ℤ pos 1) ∙ *ℤ_comm (at ρ n) (pos 1) ∙ one-*ℤ (at ρ n)
  norm_val (con z) = +ℤ_idr (z *ℤ pos 1) ∙ *ℤ_comm z (pos 1) ∙ one-*ℤ z
  norm_val (a ⊕ b) = add_val (norm a) (norm b) ∙ ap₂ (λ x y. x +ℤ y) (norm_val a) (norm_val b)
  norm_val (a ⊝ b) = add_val (norm a) (negate (norm b)) ∙ ap₂ (λ x y. x +ℤ y) (norm_val a) (negate_val (norm b) ∙ ap neg_ℤ (norm_val b))
  norm_val (a ⊗ b) = mul_val (norm a) (norm b) ∙ ap₂ (λ x y. x *ℤ y) (norm_val a) (norm_val b)
  norm_val (neg a) = negate_val (norm a) ∙ ap neg_ℤ (norm_val a)

  is_zero_val : (c : ℤ) → T (is_zero c) → c ≡ pos 0
  is_zero_val (pos zero) t = refl
  is_zero_val (pos (suc n)) t = absurd t
  is_zero_val (negsuc n) t = absurd t

  all_zero_val : (p : Poly) → T (all_zero p) → val ρ p ≡ pos 0
  all_zero_val end t = refl
  all_zero_val (term c m p) t = go (is_zero c) (is_zero_val c) (all_zero_val p) t
    where
      go : (b : Bool) → (T b → c ≡ pos 0) → (T (all_zero p) → val ρ p ≡ pos 0) → T (b && all_zero p) → c *ℤ mon ρ m +ℤ val ρ p ≡ pos 0
      go true e f u = ap₂ (λ x y. x *ℤ mon ρ m +ℤ y) (e tt) (f u) ∙ ap (λ x. x +ℤ pos 0) (zero-*ℤ (mon ρ m))
      go false e f u = absurd u

  -- a normal form that is a constant of at least zero
  leftover_val : (p : Poly) → T (leftover p) → (n : ℕ) × (val ρ p ≡ pos n)
  leftover_val end t = (0, refl)
  leftover_val (term c [] p) t = go (non_neg c) (pos-nat_abs c) (leftover_val p) t
    where
      go : (b : Bool) → (T b → pos (nat_abs c) ≡ c) → (T (leftover p) → (n : ℕ) × (val ρ p ≡ pos n)) → T (b && leftover p) → (n : ℕ) × (c *ℤ pos 1 +ℤ val ρ p ≡ pos n)
      go true e f u = (nat_abs c + (f u).0, ap₂ (λ x y. x +ℤ y) (*ℤ_comm c (pos 1) ∙ one-*ℤ c ∙ sym (e tt)) (f u).1)
      go false e f u = absurd u
  leftover_val (term c (v ∷ m) p) t = go (is_zero c) (is_zero_val c) (leftover_val p) t
    where
      go : (b : Bool) → (T b → c ≡ pos 0) → (T (leftover p) → (n : ℕ) × (val ρ p ≡ pos n)) → T (b && leftover p) → (n : ℕ) × (c *ℤ mon ρ (v ∷ m) +ℤ val ρ p ≡ pos n)
      go true e f u = ((f u).0, ap₂ (λ x y. x *ℤ mon ρ (v ∷ m) +ℤ y) (e tt) (f u).1 ∙ ap (λ x. x +ℤ pos (f u).0) (zero-*ℤ (mon ρ (v ∷ m))) ∙ +ℤ_idl (pos (f u).0))
      go false e f u = absurd u

-- two polynomials are equal everywhere if their difference has no coefficient but zero
abbrev pub same : Expr → Expr → Bool
same a b = all_zero (norm (a ⊝ b))

same_val : (ρ : List ℤ) (a b : Expr) → T (same a b) → eval ρ a ≡ eval ρ b
same_val ρ a b t = eq_of_sub (eval ρ a) (eval ρ b) (sym (norm_val ρ (a ⊝ b)) ∙ all_zero_val ρ (norm (a ⊝ b)) t)

-- ---- the calls. What is to be solved is a function of as many variables as the list ρ of their values is long: (λ a b. a ⊕ b ≐ b ⊕ a)
abbrev pub Over : List ℤ → Type 0 → Type 0
Over [] A = A
Over (x ∷ ρ) A = Expr → Over ρ A

module _ {A : Type 0} where
  abbrev pub number : (ρ : List ℤ) → ℕ → Over ρ A → A
  number [] n f = f
  number (x ∷ ρ) n f = number ρ (suc n) (f (var n))

-- an equation: it holds if the test passes
infix 5 ◌≐◌
pub data Equation : Type 0 where
  ◌≐◌ : Expr → Expr → Equation

abbrev pub Holds : List ℤ → Equation → Type 0
Holds ρ (a ≐ b) = eval ρ a ≡ eval ρ b

abbrev pub holds : Equation → Bool
holds (a ≐ b) = same a b

holds_val : (ρ : List ℤ) (q : Equation) → T (holds q) → Holds ρ q
holds_val ρ (a ≐ b) t = same_val ρ a b t

pub ring : (ρ : List ℤ) (q : Over ρ Equation) → T (holds (number ρ 0 q)) → Holds ρ (number ρ 0 q)
ring ρ q t = holds_val ρ (number ρ 0 q) t

-- an equation from equations: `eqn k a b` is a ≡ b, used k times, for a polynomial k
pub data Given : Type 0 where
  eqn : Expr → Expr → Expr → Given

infix 4 ◌⊢◌≐◌
pub data Deduction : Type 0 where
  ◌⊢◌≐◌ : List Given → Expr → Expr → Deduction

abbrev pub AllGiven : List ℤ → List Given → Type 0
AllGiven ρ [] = Unit {0}
AllGiven ρ (eqn k a b ∷ gs) = (eval ρ a ≡ eval ρ b) × AllGiven ρ gs

abbrev pub Deduced : List ℤ → Deduction → Type 0
Deduced ρ (gs ⊢ a ≐ b) = AllGiven ρ gs → eval ρ a ≡ eval ρ b

abbrev pub excess : List Given → Expr
excess [] = con (pos 0)
excess (eqn k a b ∷ gs) = k ⊗ (a ⊝ b) ⊕ excess gs

abbrev pub follows : Deduction → Bool
follows (gs ⊢ a ≐ b) = same (a ⊝ b) (excess gs)

excess_val : (ρ : List ℤ) (gs : List Given) → AllGiven ρ gs → eval ρ (excess gs) ≡ pos 0
excess_val ρ [] h = refl
excess_val ρ (eqn k a b ∷ gs) h =
    ap₂ (λ x y. eval ρ k *ℤ (x -ℤ eval ρ b) +ℤ y) h.0 (excess_val ρ gs h.1)
    ∙ ap (λ x. eval ρ k *ℤ x +ℤ pos 0) (+ℤ_invr (eval ρ b)) ∙ ap (λ x. x +ℤ pos 0) (*ℤ-zero (eval ρ k))

follows_val : (ρ : List ℤ) (d : Deduction) → T (follows d) → Deduced ρ d
follows_val ρ (gs ⊢ a ≐ b) t = λ h. eq_of_sub (eval ρ a) (eval ρ b) (same_val ρ (a ⊝ b) (excess gs) t ∙ excess_val ρ gs h)

pub combine : (ρ : List ℤ) (d : Over ρ Deduction) → T (follows (number ρ 0 d)) → Deduced ρ (number ρ 0 d)
combine ρ d t = follows_val ρ (number ρ 0 d) t

-- an order from orders: `le k a b` is a ≤ b, used k times; what is left over is a constant of at least zero
pub data Known : Type 0 where
  le : ℕ → Expr → Expr → Known

infix 4 ◌⊢◌≼◌
pub data Bound : Type 0 where
  ◌⊢◌≼◌ : List Known → Expr → Expr → Bound

abbrev pub AllKnown : List ℤ → List Known → Type 0
AllKnown ρ [] = Unit {0}
AllKnown ρ (le k a b ∷ ks) = (eval ρ a ≤ℤ eval ρ b) × AllKnown ρ ks

abbrev pub Bounded : List ℤ → Bound → Type 0
Bounded ρ (ks ⊢ a ≼ b) = AllKnown ρ ks → eval ρ a ≤ℤ eval ρ b

abbrev pub gain : List Known → Expr
gain [] = con (pos 0)
gain (le k a b ∷ ks) = con (pos k) ⊗ (b ⊝ a) ⊕ gain ks

abbrev pub bounds : Bound → Bool
bounds (ks ⊢ a ≼ b) = leftover (norm (b ⊝ a ⊝ gain ks))

≤-difference : {a b : ℤ} → a ≤ℤ b → (n : ℕ) × (b -ℤ a ≡ pos n)
≤-difference {a} {b} h =
    let (n, e) = ≤-gap h in
    (n, ap (λ x. x -ℤ a) (e ∙ +ℤ_comm a (pos n)) ∙ +ℤ-neg_ℤ_cancel (pos n) a)

gain_val : (ρ : List ℤ) (ks : List Known) → AllKnown ρ ks → (n : ℕ) × (eval ρ (gain ks) ≡ pos n)
gain_val ρ [] h = (0, refl)
gain_val ρ (le k a b ∷ ks) h =
    let (m, d) = ≤-difference h.0 in
    let (n, e) = gain_val ρ ks h.1 in
    (k * m + n, ap₂ (λ x y. pos k *ℤ x +ℤ y) d e)

bounds_val : (ρ : List ℤ) (b : Bound) → T (bounds b) → Bounded ρ b
bounds_val ρ (ks ⊢ a ≼ b) t = λ h.
    let (m, d) = gain_val ρ ks h in
    let (n, e) = leftover_val ρ (norm (b ⊝ a ⊝ gain ks)) t in
    let e' = sym (norm_val ρ (b ⊝ a ⊝ gain ks)) ∙ e in
    ≤-by (n + m) (add_back (eval ρ a) (eval ρ b) (eval ρ (gain ks)) (pos n) (pos m) e' d)
  where
    add_back : (a b g x y : ℤ) → b -ℤ a -ℤ g ≡ x → g ≡ y → b ≡ a +ℤ (x +ℤ y)
    add_back a b g x y e d =
        sym (-ℤ-+ℤ_cancel b a) ∙ ap (λ z. z +ℤ a) (sym (-ℤ-+ℤ_cancel (b -ℤ a) g) ∙ ap₂ (λ p q. p +ℤ q) e d) ∙ +ℤ_comm (x +ℤ y) a

pub lin : (ρ : List ℤ) (b : Over ρ Bound) → T (bounds (number ρ 0 b)) → Bounded ρ (number ρ 0 b)
lin ρ b t = bounds_val ρ (number ρ 0 b) t
