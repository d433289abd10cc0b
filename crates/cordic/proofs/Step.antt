-- One micro-rotation, on a column (u, v), exactly as integers compute it: u ± ⌊v / m⌋ and v ∓ ⌊u / m⌋.
-- `step_dot`: it multiplies the dot product of any two columns by 1 + 1 / m², but for an error that their size bounds.
-- Assumes nothing.
use mathlib.Core.Path.{◌≡◌}
use mathlib.Core.List.{[], ◌∷◌}
use mathlib.Core.Bool.{Bool, true, false}
use Prim.Native.Nat.{ℕ, ◌+◌, ◌*◌, ◌^◌, ◌<◌}
use native.Mathlib.Nat.{le_refl, le_of_lt}
use native.Mathlib.Omega.{arith}
use lib.IntN.{ℤ, pos, neg_ℤ, ◌+ℤ◌, ◌-ℤ◌, ◌*ℤ◌}
use lib.Signed.{shr_z}
use Rattle.cordic.specs.Norm.{dot, Small}
use Rattle.cordic.specs.declared.Pair.{Pair}
use Rattle.cordic.specs.MicroRotation.{micro_rotation_of}
use lib.Pow.{pow_pos}
use Rattle.integers.specs.Within.{Within}
use Rattle.integers.proofs.Within.{within, within-+, within--, within-*, within_neg, within_pos, within_as}
use Rattle.integers.proofs.Floor.{Floor, floor, shr_abs}
use Rattle.integers.proofs.Ring.{con, neg, ◌⊕◌, ◌⊝◌, ◌⊗◌, ◌≐◌, ring, eqn, ◌⊢◌≐◌, combine}

-- ---- the dot product, with the floors as numbers of their own
module _ (m uc vc ud vd quc qvc qud qvd ruc rvc rud rvd : ℤ) where
  step_identity : uc ≡ m *ℤ quc +ℤ ruc → vc ≡ m *ℤ qvc +ℤ rvc → ud ≡ m *ℤ qud +ℤ rud → vd ≡ m *ℤ qvd +ℤ rvd
      → m *ℤ m *ℤ ((uc +ℤ qvc) *ℤ (ud +ℤ qvd) +ℤ (vc -ℤ quc) *ℤ (vd -ℤ qud)) -ℤ (m *ℤ m +ℤ pos 1) *ℤ (uc *ℤ ud +ℤ vc *ℤ vd)
      ≡ neg_ℤ (m *ℤ ((uc +ℤ qvc) *ℤ rvd +ℤ (ud +ℤ qvd) *ℤ rvc -ℤ ((vc -ℤ quc) *ℤ rud +ℤ (vd -ℤ qud) *ℤ ruc)) +ℤ (rvc *ℤ rvd +ℤ ruc *ℤ rud))
  step_identity e f g h = combine (m ∷ uc ∷ vc ∷ ud ∷ vd ∷ quc ∷ qvc ∷ qud ∷ qvd ∷ ruc ∷ rvc ∷ rud ∷ rvd ∷ [])
      (λ m uc vc ud vd quc qvc qud qvd ruc rvc rud rvd.
      eqn (m ⊗ (vd ⊝ qud) ⊝ rud) uc (m ⊗ quc ⊕ ruc) ∷ eqn (neg (m ⊗ (ud ⊕ qvd) ⊕ rvd)) vc (m ⊗ qvc ⊕ rvc)
      ∷ eqn (m ⊗ vc ⊝ uc) ud (m ⊗ qud ⊕ rud) ∷ eqn (neg (m ⊗ uc ⊕ vc)) vd (m ⊗ qvd ⊕ rvd) ∷ []
      ⊢ m ⊗ m ⊗ ((uc ⊕ qvc) ⊗ (ud ⊕ qvd) ⊕ (vc ⊝ quc) ⊗ (vd ⊝ qud)) ⊝ (m ⊗ m ⊕ con (pos 1)) ⊗ (uc ⊗ ud ⊕ vc ⊗ vd)
      ≐ neg (m ⊗ ((uc ⊕ qvc) ⊗ rvd ⊕ (ud ⊕ qvd) ⊗ rvc ⊝ ((vc ⊝ quc) ⊗ rud ⊕ (vd ⊝ qud) ⊗ ruc)) ⊕ (rvc ⊗ rvd ⊕ ruc ⊗ rud)))
      tt (e, (f, (g, (h, tt))))

-- six terms are left, each bounded by its factors
module _ (m M : ℕ) (uc vc ud vd : ℤ) (h : 0 < m) where
  plus_dot : Within (uc +ℤ shr_z vc m) M → Within (vc -ℤ shr_z uc m) M → Within (ud +ℤ shr_z vd m) M → Within (vd -ℤ shr_z ud m) M
      → Within (pos m *ℤ pos m *ℤ ((uc +ℤ shr_z vc m) *ℤ (ud +ℤ shr_z vd m) +ℤ (vc -ℤ shr_z uc m) *ℤ (vd -ℤ shr_z ud m)) -ℤ (pos m *ℤ pos m +ℤ pos 1) *ℤ (uc *ℤ ud +ℤ vc *ℤ vd))
      (m * m * (4 * M + 2))
  plus_dot a b c d =
      let fuc = floor m h uc in
      let fvc = floor m h vc in
      let fud = floor m h ud in
      let fvd = floor m h vd in
      within_as
      (within_neg (within-+
      (within-* (within_pos m) (within-- (within-+ (within-* a (rest fvd)) (within-* c (rest fvc))) (within-+ (within-* b (rest fud)) (within-* d (rest fuc)))))
      (within-+ (within-* (rest fvc) (rest fvd)) (within-* (rest fuc) (rest fud)))))
      (step_identity (pos m) uc vc ud vd (shr_z uc m) (shr_z vc m) (shr_z ud m) (shr_z vd m)
      (pos fuc.rest) (pos fvc.rest) (pos fud.rest) (pos fvd.rest) fuc.split fvc.split fud.split fvd.split)
      (omega arith)
    where
      rest : {z : ℤ} (f : Floor m z) → Within (pos f.rest) m
      rest f = within (le_of_lt f.below)

-- the sign's other case is the same with the two words in each other's place
pub step_dot : (σ : Bool) (i M : ℕ) (c d : Pair) → Small M (micro_rotation_of i σ c) → Small M (micro_rotation_of i σ d)
    → Within (pos (2 ^ i * 2 ^ i) *ℤ dot (micro_rotation_of i σ c) (micro_rotation_of i σ d) -ℤ pos (2 ^ i * 2 ^ i + 1) *ℤ dot c d) (2 ^ i * 2 ^ i * (4 * M + 2))
unfolding micro_rotation_of
step_dot true i M c d a b = plus_dot (2 ^ i) M c.u c.v d.u d.v (pow_pos i) a.u a.v b.u b.v
step_dot false i M c d a b = within_as (plus_dot (2 ^ i) M c.v c.u d.v d.u (pow_pos i) a.v a.u b.v b.u)
    (swapped (pos (2 ^ i * 2 ^ i)) (pos (2 ^ i * 2 ^ i + 1)) (c.u -ℤ shr_z c.v (2 ^ i)) (c.v +ℤ shr_z c.u (2 ^ i)) (d.u -ℤ shr_z d.v (2 ^ i)) (d.v +ℤ shr_z d.u (2 ^ i)) c.u c.v d.u d.v)
    (le_refl (2 ^ i * 2 ^ i * (4 * M + 2)))
  where
    swapped : (k l p q r s x y z w : ℤ) → k *ℤ (p *ℤ r +ℤ q *ℤ s) -ℤ l *ℤ (x *ℤ z +ℤ y *ℤ w) ≡ k *ℤ (q *ℤ s +ℤ p *ℤ r) -ℤ l *ℤ (y *ℤ w +ℤ x *ℤ z)
    swapped k l p q r s x y z w = ring (k ∷ l ∷ p ∷ q ∷ r ∷ s ∷ x ∷ y ∷ z ∷ w ∷ [])
        (λ k l p q r s x y z w. k ⊗ (p ⊗ r ⊕ q ⊗ s) ⊝ l ⊗ (x ⊗ z ⊕ y ⊗ w) ≐ k ⊗ (q ⊗ s ⊕ p ⊗ r) ⊝ l ⊗ (y ⊗ w ⊕ x ⊗ z)) tt

-- a micro-rotation at most adds the words up
pub step_small : (σ : Bool) (i M : ℕ) (c : Pair) → Small M c → Small (M + M) (micro_rotation_of i σ c)
unfolding micro_rotation_of
step_small true i M c h = record { u = within-+ h.u (shr_abs c.v (2 ^ i) h.v); v = within-- h.v (shr_abs c.u (2 ^ i) h.u) }
step_small false i M c h = record { u = within-- h.u (shr_abs c.v (2 ^ i) h.v); v = within-+ h.v (shr_abs c.u (2 ^ i) h.u) }
