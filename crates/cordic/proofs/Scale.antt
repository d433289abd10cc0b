-- What the 28 micro-rotations have stretched is scaled back: each word w becomes ⌊(w gain + 2 ^ 29) / 2 ^ 30⌋, with gain / 2 ^ 30 a little below √(shrunk / stretched).
-- `scaled-dot`: after the micro-rotations and the scaling the dot product of two columns is what it was, within 11 · 2 ^ 33.
-- Assumes nothing.
use mathlib.Core.Path.{◌≡◌, refl}
use mathlib.Core.List.{[], ◌∷◌}
use Prim.Native.Nat.{ℕ, ◌+◌, ◌*◌, ◌-◌, ◌^◌, ◌≤◌}
use native.Mathlib.Nat.{le_refl, le_of_mul-le-mul_left}
use native.Mathlib.Omega.{arith}
use lib.Dec.{lit<, lit≤, leb→le}
use lib.IntN.{ℤ, pos, nat_abs, ◌+ℤ◌, ◌-ℤ◌, ◌*ℤ◌}
use lib.Signed.{◌≤ℤ◌}
use Rattle.integers.specs.Within.{Within}
use Rattle.integers.proofs.Within.{within, within-+, within--, within-*, within_pos, within_as, within_difference}
use Rattle.integers.proofs.Laws.{abs-*, abs-+, abs_squares}
use Rattle.integers.proofs.Floor.{Floor, floor}
use Rattle.integers.proofs.Order.{square≥0}
use Rattle.integers.proofs.Ring.{con, neg, ◌⊕◌, ◌⊝◌, ◌⊗◌, ◌≐◌, eqn, ◌⊢◌≐◌, combine, le, ◌⊢◌≼◌, lin}
use Rattle.cordic.specs.Norm.{dot, Small, most, norm_bound}
use Rattle.cordic.specs.declared.Pair.{Pair}
use Rattle.cordic.specs.Word.{gain, scaled}
use Rattle.cordic.specs.Gain.{shrunk, stretched}
use Rattle.cordic.proofs.Telescope.{Near, sharp}

abbrev pub scaled_pair : Pair → Pair
scaled_pair c = record { u = scaled c.u; v = scaled c.v }

-- ---- one word: 2 ^ 30 w' = w gain + e, and e is at most 2 ^ 29
pub record Rounded (w : ℤ) : Type 0 where
  pub e : ℤ
  pub small : Within e (2 ^ 29)
  pub is : pos (2 ^ 30) *ℤ scaled w ≡ w *ℤ pos gain +ℤ e

pub rounded : (w : ℤ) → Rounded w
unfolding scaled
rounded w = record { e = pos (2 ^ 29) -ℤ pos f.rest; small = within_difference (2 ^ 29) f.rest (omega arith) (omega (arith, f.below)); is = solve (pos (2 ^ 30)) w (pos gain) (pos (2 ^ 29)) (scaled w) (pos f.rest) f.split }
  where
    f : Floor (2 ^ 30) (w *ℤ pos gain +ℤ pos (2 ^ 29))
    f = floor (2 ^ 30) (lit< tt) (w *ℤ pos gain +ℤ pos (2 ^ 29))

    solve : (k w g h x r : ℤ) → w *ℤ g +ℤ h ≡ k *ℤ x +ℤ r → k *ℤ x ≡ w *ℤ g +ℤ (h -ℤ r)
    solve k w g h x r p = combine (k ∷ w ∷ g ∷ h ∷ x ∷ r ∷ []) (λ k w g h x r. eqn (neg (con (pos 1))) (w ⊗ g ⊕ h) (k ⊗ x ⊕ r) ∷ [] ⊢ k ⊗ x ≐ w ⊗ g ⊕ (h ⊝ r)) tt (p, tt)

pub scale_abs : (w : ℤ) (M : ℕ) → Within w M → 2 ^ 30 * nat_abs (scaled w) ≤ M * gain + 2 ^ 29
scale_abs w M h =
    let r = rounded w in
    rw (abs-* (pos (2 ^ 30)) (scaled w)) at (within_as (within-+ (within-* h (within_pos gain)) r.small) r.is (le_refl (M * gain + 2 ^ 29))).abs

-- the words of a scaled column: far inside 32 bits
pub scaled_small : (c : Pair) → Small most c → Small (2 * gain) (scaled_pair c)
scaled_small c s = record { u = within (omega (arith, scale_abs c.u most s.u)); v = within (omega (arith, scale_abs c.v most s.v)) }

-- and of the lower leading word
pub scaled-rest : (w : ℤ) → Within w 43 → Within (scaled w) 26
scaled-rest w h = within (omega (arith, scale_abs w 43 h))

-- ---- two columns
module _ (k g uc vc ud vd xc yc xd yd euc evc eud evd : ℤ) where
  scale_identity : k *ℤ xc ≡ uc *ℤ g +ℤ euc → k *ℤ yc ≡ vc *ℤ g +ℤ evc → k *ℤ xd ≡ ud *ℤ g +ℤ eud → k *ℤ yd ≡ vd *ℤ g +ℤ evd
      → k *ℤ k *ℤ (xc *ℤ xd +ℤ yc *ℤ yd) -ℤ g *ℤ g *ℤ (uc *ℤ ud +ℤ vc *ℤ vd)
      ≡ g *ℤ (uc *ℤ eud +ℤ ud *ℤ euc +ℤ (vc *ℤ evd +ℤ vd *ℤ evc)) +ℤ (euc *ℤ eud +ℤ evc *ℤ evd)
  scale_identity p q r s = combine (k ∷ g ∷ uc ∷ vc ∷ ud ∷ vd ∷ xc ∷ yc ∷ xd ∷ yd ∷ euc ∷ evc ∷ eud ∷ evd ∷ [])
      (λ k g uc vc ud vd xc yc xd yd euc evc eud evd.
      eqn (k ⊗ xd) (k ⊗ xc) (uc ⊗ g ⊕ euc) ∷ eqn (k ⊗ yd) (k ⊗ yc) (vc ⊗ g ⊕ evc)
      ∷ eqn (uc ⊗ g ⊕ euc) (k ⊗ xd) (ud ⊗ g ⊕ eud) ∷ eqn (vc ⊗ g ⊕ evc) (k ⊗ yd) (vd ⊗ g ⊕ evd) ∷ []
      ⊢ k ⊗ k ⊗ (xc ⊗ xd ⊕ yc ⊗ yd) ⊝ g ⊗ g ⊗ (uc ⊗ ud ⊕ vc ⊗ vd)
      ≐ g ⊗ (uc ⊗ eud ⊕ ud ⊗ euc ⊕ (vc ⊗ evd ⊕ vd ⊗ evc)) ⊕ (euc ⊗ eud ⊕ evc ⊗ evd))
      tt (p, (q, (r, (s, tt))))

abbrev pub slack : ℕ
slack = gain * (4 * 2 ^ 60) + 2 ^ 59

scale_dot : (c d : Pair) → Small most c → Small most d → Within (pos (2 ^ 60) *ℤ dot (scaled_pair c) (scaled_pair d) -ℤ pos (gain * gain) *ℤ dot c d) slack
scale_dot c d a b =
    let ruc = rounded c.u in
    let rvc = rounded c.v in
    let rud = rounded d.u in
    let rvd = rounded d.v in
    within_as
    (within-+ (within-* (within_pos gain) (within-+ (within-+ (within-* a.u rud.small) (within-* b.u ruc.small)) (within-+ (within-* a.v rvd.small) (within-* b.v rvc.small))))
    (within-+ (within-* ruc.small rud.small) (within-* rvc.small rvd.small)))
    (scale_identity (pos (2 ^ 30)) (pos gain) c.u c.v d.u d.v (scaled c.u) (scaled c.v) (scaled d.u) (scaled d.v)
    ruc.e rvc.e rud.e rvd.e ruc.is rvc.is rud.is rvd.is)
    (lit≤ tt)

-- ---- the dot product at the start is at most the larger of the two squares, since 2 a b ≤ a² + b²
pub two_products : (a b : ℕ) → 2 * (a * b) ≤ a * a + b * b
two_products a b = leb→le (2 * (a * b)) (a * a + b * b) (order (pos a) (pos b)).le
  where
    order : (a b : ℤ) → (pos 2 *ℤ (a *ℤ b)) ≤ℤ (a *ℤ a +ℤ b *ℤ b)
    order a b = lin (a ∷ b ∷ []) (λ a b. le 1 (con (pos 0)) ((a ⊝ b) ⊗ (a ⊝ b)) ∷ [] ⊢ con (pos 2) ⊗ (a ⊗ b) ≼ a ⊗ a ⊕ b ⊗ b) tt (square≥0 (a -ℤ b), tt)

pub dot-small : (c d : Pair) (N : ℕ) → Within (dot c c) N → Within (dot d d) N → Within (dot c d) N
dot-small c d N h k = within (omega (arith, parts, squares c h, squares d k, two_products (nat_abs c.u) (nat_abs d.u), two_products (nat_abs c.v) (nat_abs d.v)))
  where
    parts : nat_abs (dot c d) ≤ nat_abs c.u * nat_abs d.u + nat_abs c.v * nat_abs d.v
    parts = rw (← abs-* c.u d.u, ← abs-* c.v d.v) (abs-+ (c.u *ℤ d.u) (c.v *ℤ d.v))

    squares : (e : Pair) → Within (dot e e) N → nat_abs e.u * nat_abs e.u + nat_abs e.v * nat_abs e.v ≤ N
    squares e h = rw (abs_squares e.u e.v) at h.abs

-- ---- the whole, with T for shrunk 28 and S for stretched 28: T 2⁶⁰ (D' − D₀) = T (2⁶⁰ D' − gain² D) + gain² (T D − S D₀) − (2⁶⁰ T − gain² S) D₀
abbrev gap : ℕ
gap = shrunk 28 * 2 ^ 60 - gain * gain * stretched 28

whole_identity : (t s k q r D D₀ D' : ℤ) → q *ℤ s +ℤ r ≡ t *ℤ k
    → t *ℤ k *ℤ (D' -ℤ D₀) ≡ t *ℤ (k *ℤ D' -ℤ q *ℤ D) +ℤ q *ℤ (t *ℤ D -ℤ s *ℤ D₀) -ℤ r *ℤ D₀
whole_identity t s k q r D D₀ D' e = combine (t ∷ s ∷ k ∷ q ∷ r ∷ D ∷ D₀ ∷ D' ∷ [])
    (λ t s k q r D D₀ D'. eqn D₀ (q ⊗ s ⊕ r) (t ⊗ k) ∷ [] ⊢ t ⊗ k ⊗ (D' ⊝ D₀) ≐ t ⊗ (k ⊗ D' ⊝ q ⊗ D) ⊕ q ⊗ (t ⊗ D ⊝ s ⊗ D₀) ⊝ r ⊗ D₀) tt (e, tt)

pub scaled-dot : (D₀ : ℤ) (c d : Pair) → Within D₀ norm_bound → Small most c → Small most d → Near sharp 28 D₀ (dot c d)
    → Within (dot (scaled_pair c) (scaled_pair d) -ℤ D₀) (11 * 2 ^ 33)
scaled-dot D₀ c d n a b h = within (le_of_mul-le-mul_left {k = shrunk 28 * 2 ^ 60} (rw (abs-* (pos (shrunk 28 * 2 ^ 60)) (dot (scaled_pair c) (scaled_pair d) -ℤ D₀)) at all.abs) (lit< tt))
  where
    all : Within (pos (shrunk 28 * 2 ^ 60) *ℤ (dot (scaled_pair c) (scaled_pair d) -ℤ D₀)) (shrunk 28 * 2 ^ 60 * (11 * 2 ^ 33))
    all = within_as
        (within-- (within-+ (within-* (within_pos (shrunk 28)) (scale_dot c d a b)) (within-* (within_pos (gain * gain)) h.off)) (within-* (within_pos gap) n))
        (whole_identity (pos (shrunk 28)) (pos (stretched 28)) (pos (2 ^ 60)) (pos (gain * gain)) (pos gap) (dot c d) D₀ (dot (scaled_pair c) (scaled_pair d)) refl)
        (lit≤ tt)
