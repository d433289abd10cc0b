-- Floats of bounded magnitude: one operation on them gives a finite float, of a bound that its operands' bounds give. Assumes nothing.
use mathlib.Core.Path.{◌≡◌, refl, sym, ap, subst, ◌∙◌}
use mathlib.Core.Bool.{Bool, true, false, ◌&&◌, beq, cond}
use Prim.Native.Nat.{ℕ, zero, suc, ◌+◌, ◌*◌, ◌-◌, ◌/◌, ◌^◌, ◌≤◌, ◌<◌}
use native.Mathlib.Nat.{le_trans, le_of_eq, lt_of_le_of_lt, lt_of_lt_of_le, mul-one, one-mul, zero-mul, mul_comm, mul_assoc, mul_left_comm, mul_right_comm, mul-le-mul, mul-le-mul_right, mul-le-mul_left, mul-pos, le_of_mul-le-mul_right, div-one, mod-one, div-lt_iff_lt-mul, mul-lt-mul_of_pos_right}
use native.Mathlib.Omega.{arith}
use borrow.Author.Tests.{ne_eqb}
use lib.Dec.{ltb}
use lib.IntN.{ℤ, pos, negsuc, nat_abs}
use lib.Pow.{pow-add, pow_pos, pow_mono, pow-lt}
use lib.Ieee.{Float, nan, inf, fin, Format, binary64, prec, emax, low, up, down, unlike, size, units, round, sum, add, sub, neg, mul, div, of_int}
use lib.Ieee.Digits.{size-le, back}
use lib.Ieee.Fits.{two, round_is, down_pos}
use lib.Ieee.Exact.{HasValue, units_val}
use lib.Ieee.Nearest.{closest, closest_mono}
use lib.Ieee.Order.{drop, kept}
use lib.Ieee.Back.{round_whole}
use Rattle.weights_laws.specs.Finite.{AtMost}

pub weaker : (x : Float) {a b : ℕ} → AtMost x a → a ≤ b → AtMost x b
weaker nan h l = h
weaker (inf s) h l = h
weaker (fin s m e) h l = le_trans h (mul-le-mul_right (down e) (pow_mono l))

-- by the fraction that it equals
of_value : (x : Float) (s : Bool) (a l k : ℕ) → HasValue x s a (2 ^ l) → a ≤ 2 ^ (k + l) → AtMost x k
of_value nan s a l k v h = v
of_value (inf t) s a l k v h = v
of_value (fin t m e) s a l k v h =
    le_of_mul-le-mul_right
    (le_trans (le_of_eq v.1) (le_trans (mul-le-mul_right (down e) h) (le_of_eq (rw (pow-add 2 k l) (mul_right_comm (2 ^ k) (2 ^ l) (down e))))))
    (pow_pos l)

whole-closest : (c : ℕ) → closest c 1 ≡ c
whole-closest c = rw (div-one c, mod-one c)

-- a fraction of at most 2 ^ k rounds to at most 2 ^ k
module _ (f : Format) (num den k : ℕ) (D : 0 < den) (h : num ≤ 2 ^ k * den) where
  n≤ : num * 2 ^ low f ≤ 2 ^ (k + low f) * den
  n≤ = le_trans (mul-le-mul_right (2 ^ low f) h) (le_of_eq (rw (pow-add 2 k (low f)) (mul_right_comm (2 ^ k) den (2 ^ low f))))

  few : size (num * 2 ^ low f / den) ≤ k + low f + 1
  few = size-le _ (k + low f + 1) ((div-lt_iff_lt-mul D).1 (lt_of_le_of_lt n≤ (mul-lt-mul_of_pos_right (pow-lt (omega arith)) D)))

  dropped : drop (prec f) (num * 2 ^ low f) den ≤ k + low f
  dropped = omega (arith, few, two f)

  on_grid : kept (prec f) (num * 2 ^ low f) den * 2 ^ drop (prec f) (num * 2 ^ low f) den ≤ 2 ^ (k + low f)
  on_grid =
      let j = drop (prec f) (num * 2 ^ low f) den in
      let i = k + low f - j in
      let split : 2 ^ i * 2 ^ j ≡ 2 ^ (k + low f) = sym (pow-add 2 i j) ∙ ap (λ (x : ℕ). 2 ^ x) (back (k + low f) j dropped) in
      let same : 2 ^ i * (den * 2 ^ j) ≡ 2 ^ (k + low f) * den = ap (λ (x : ℕ). 2 ^ i * x) (mul_comm den (2 ^ j)) ∙ sym (mul_assoc (2 ^ i) (2 ^ j) den) ∙ ap (λ (x : ℕ). x * den) split in
      let cross : num * 2 ^ low f * 1 ≤ 2 ^ i * (den * 2 ^ j) = rw (mul-one (num * 2 ^ low f), same) n≤ in
      let near : closest (num * 2 ^ low f) (den * 2 ^ j) ≤ 2 ^ i = rw (whole-closest (2 ^ i)) at (closest_mono (num * 2 ^ low f) (den * 2 ^ j) (2 ^ i) 1 (mul-pos D (pow_pos j)) (omega arith) cross) in
      le_trans (mul-le-mul_right (2 ^ j) near) (le_of_eq split)

  pub round-most : (s : Bool) → k ≤ emax f → AtMost (round f s num den) k
  round-most s l =
      subst (λ (x : Float). AtMost x k) (sym (round_is f s num den))
      (of_value (units f s (kept (prec f) (num * 2 ^ low f) den) (drop (prec f) (num * 2 ^ low f) den)) s _ (low f) k (units_val f s _ _ (lt_of_le_of_lt on_grid (pow-lt (omega arith)))) on_grid)

-- ---- the operations, at 64 bits
crossed : (w x y z : ℕ) → w * x * (y * z) ≡ w * y * (x * z)
crossed w x y z = simp (mul_assoc, mul_left_comm)

pub most-mul : (x y : Float) (a b : ℕ) → AtMost x a → AtMost y b → a + b ≤ 1023 → AtMost (mul binary64 x y) (a + b)
unfolding mul
most-mul nan y a b p q l = absurd p
most-mul (inf s) y a b p q l = absurd p
most-mul (fin s m e) nan a b p q l = absurd q
most-mul (fin s m e) (inf t) a b p q l = absurd q
most-mul (fin s m e) (fin t n d) a b p q l =
    round-most binary64 (m * up e * (n * up d)) (down e * down d) (a + b) (mul-pos (down_pos e) (down_pos d))
    (le_trans (mul-le-mul p q) (le_of_eq (crossed (2 ^ a) (down e) (2 ^ b) (down d) ∙ ap (λ (x : ℕ). x * (down e * down d)) (sym (pow-add 2 a b))))) (unlike s t) l

most-neg : (x : Float) (a : ℕ) → AtMost x a → AtMost (neg x) a
unfolding neg
most-neg nan a p = p
most-neg (inf s) a p = p
most-neg (fin s m e) a p = p

pick : (u v : Bool) (i j k : Float) (a : ℕ) → AtMost i a → AtMost j a → AtMost k a → AtMost (cond u i (cond v j k)) a
pick true v i j k a f g h = f
pick false true i j k a f g h = g
pick false false i j k a f g h = h

double : (a c : ℕ) → 2 ^ a * c + 2 ^ a * c ≡ 2 ^ (a + 1) * c
double a c = rw (pow-add 2 a 1) (omega (arith, mul_right_comm (2 ^ a) 2 c))

most-sum : (s t : Bool) (x y c a : ℕ) → 0 < c → x ≤ 2 ^ a * c → y ≤ 2 ^ a * c → a + 1 ≤ 1023 → AtMost (sum binary64 s x t y c) (a + 1)
unfolding sum
most-sum s t x y c a C p q l =
    let e = double a c in
    let far : (z : ℕ) (u : Bool) → z ≤ x + y → AtMost (round binary64 u z c) (a + 1) = λ z u h. round-most binary64 z c (a + 1) C (omega arith) u l in
    pick (beq s t) (ltb x y) _ _ _ (a + 1) (far (x + y) s (omega arith)) (far (y - x) t (omega arith)) (far (x - y) (s && ltb y x) (omega arith))

-- a fraction of at most 2 ^ a, over a common denominator
over : (x e d a : ℕ) → x ≤ 2 ^ a * e → x * d ≤ 2 ^ a * (e * d)
over x e d a h = rw (← mul_assoc (2 ^ a) e d) (mul-le-mul_right d h)

most-add : (x y : Float) (a : ℕ) → AtMost x a → AtMost y a → a + 1 ≤ 1023 → AtMost (add binary64 x y) (a + 1)
unfolding add
most-add nan y a p q l = absurd p
most-add (inf s) y a p q l = absurd p
most-add (fin s m e) nan a p q l = absurd q
most-add (fin s m e) (inf t) a p q l = absurd q
most-add (fin s m e) (fin t n d) a p q l = most-sum s t (m * up e * down d) (n * up d * down e) (down e * down d) a (mul-pos (down_pos e) (down_pos d)) (over (m * up e) (down e) (down d) a p) (rw (mul_comm (down e) (down d)) (over (n * up d) (down d) (down e) a q)) l

pub most-sub : (x y : Float) (a : ℕ) → AtMost x a → AtMost y a → a + 1 ≤ 1023 → AtMost (sub binary64 x y) (a + 1)
unfolding sub
most-sub x y a p q l = most-add x (neg y) a p (most-neg y a q) l

-- finite, and 1 or more either way
abbrev pub AtLeastOne : Float → Type 0
AtLeastOne nan = ⊥
AtLeastOne (inf s) = ⊥
AtLeastOne (fin s m e) = down e ≤ m * up e

none : (d u : ℕ) → 0 < d → d ≤ 0 * u → ⊥
none d u D h = let e = zero-mul u in omega arith

pub most-div : (x y : Float) (a : ℕ) → AtMost x a → AtLeastOne y → a ≤ 1023 → AtMost (div binary64 x y) a
unfolding div
most-div nan y a p q l = absurd p
most-div (inf s) y a p q l = absurd p
most-div (fin s m e) nan a p q l = absurd q
most-div (fin s m e) (inf t) a p q l = absurd q
most-div (fin s m e) (fin t zero d) a p q l = absurd (none (down d) (up d) (down_pos d) q)
most-div (fin s m e) (fin t (suc n) d) a p q l =
    rw (ne_eqb (suc n) 0 (λ e. omega arith))
    (round-most binary64 (m * up e * down d) (suc n * up d * down e) a (mul-pos (lt_of_lt_of_le (down_pos d) q) (down_pos e))
    (le_trans (over (m * up e) (down e) (down d) a p) (mul-le-mul_left (2 ^ a) (rw (mul_comm (down e) (down d)) (mul-le-mul_right (down e) q))))
    (unlike s t) l)

pub most_int : (z : ℤ) (a : ℕ) → nat_abs z ≤ 2 ^ a → a ≤ 1023 → AtMost (of_int binary64 z) a
unfolding of_int
most_int (pos n) a h l = round-most binary64 n 1 a (omega arith) (rw (mul-one (2 ^ a)) h) false l
most_int (negsuc n) a h l = round-most binary64 (suc n) 1 a (omega arith) (rw (mul-one (2 ^ a)) h) true l

more : (n d : ℕ) → d ≤ suc n * d
more n d = rw (one-mul d) at (mul-le-mul_right {m = 1} {n = suc n} d (omega arith))

one_of_value : (x : Float) (s : Bool) (n : ℕ) → HasValue x s (suc n) 1 → AtLeastOne x
one_of_value nan s n v = v
one_of_value (inf t) s n v = v
one_of_value (fin t m e) s n v = rw mul-one at (le_trans (more n (down e)) (le_of_eq (sym v.1)))

pub one_int : (z : ℤ) → nat_abs z ≤ 2 ^ 53 → (nat_abs z ≡ 0 → ⊥) → AtLeastOne (of_int binary64 z)
unfolding of_int
one_int (pos zero) h o = absurd (o refl)
one_int (pos (suc n)) h o = one_of_value (round binary64 false (suc n) 1) false n (round_whole binary64 false (suc n) h)
one_int (negsuc n) h o = one_of_value (round binary64 true (suc n) 1) true n (round_whole binary64 true (suc n) h)
