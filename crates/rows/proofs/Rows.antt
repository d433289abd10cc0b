-- Two rows of words by their numbers: a read and a store of a column, and the sign of the leading one. Assumes nothing.
use Rattle.std.proofs.Common.{◌≡◌, ℕ, ◌+◌, ◌≤◌, ◌<◌, ◌∙◌, Bool, true, false, List, ℤ, length, get_or, map, sym, ap, arith}
use Rattle.std.proofs.lemmas.List.{map-set, get_or-map, length-map}
use lib.IntN.{pos}
use lib.ListN.{set}
use lib.Signed.{non_neg}
use mir.Syntax.{w32}
use mir.Val.{SFits}
use Rattle.cordic.specs.declared.Pair.{Pair}
use Rattle.cordic.specs.MicroRotation.{oriented, oriented_pair, micro_rotations, sign}
use Rattle.cordic.proofs.Growth.{leading_is}
use Rattle.rotation.specs.Stores.{pair_at, Columns}
use Rattle.rotation.proofs.Pairs.{next, later}
use Rattle.rows.specs.Lanes.{Both, Words32, lane}

module _ {A : Type 0} (f : A → ℤ) (us vs : List A) (k : ℕ) where
  -- column k, read
  pub lane_is : (a b : A) → k < length us → k < length vs → record { u = f (get_or us k a); v = f (get_or vs k b) } ≡ lane f us vs k
  unfolding pair_at
  lane_is a b p q = rw (get_or-map f us k a (pos 0) p, get_or-map f vs k b (pos 0) q)

  -- column k is stored as h says
  pub next_lane : (x y : A) (h : ℕ → Pair) → k < length us → k < length vs → Columns h 0 k (map f us) (map f vs) → record { u = f x; v = f y } ≡ h k → Columns h 0 (k + 1) (map f (set us k x)) (map f (set vs k y))
  next_lane x y h p q done e =
      rw (map-set f us k x, map-set f vs k y)
      (next (map f us) (map f vs) k (f x) (f y) h 0 (rw (length-map us f) p) (rw (length-map vs f) q) done e)

  -- the columns after it are as they were
  pub later_lane : (x y : A) (h : ℕ → Pair) → ((j : ℕ) → k ≤ j → lane f us vs j ≡ h j) → (j : ℕ) → k + 1 ≤ j → lane f (set us k x) (set vs k y) j ≡ h j
  later_lane x y h rest =
      rw (map-set f us k x, map-set f vs k y) (later (map f us) (map f vs) k (f x) (f y) h rest)

-- the lower leading word has the sign of the next micro-rotation
pub sign_is : {A : Type 0} (f : A → ℤ) (us vs : List A) (d : A) (p : Pair) (i : ℕ) → 0 < length vs → lane f us vs 0 ≡ micro_rotations (sign p) i p → non_neg (f (get_or vs 0 d)) ≡ sign p i
unfolding sign pair_at
sign_is f us vs d p i h e = ap non_neg (sym (get_or-map f vs 0 d (pos 0) h)) ∙ ap (λ (q : Pair). non_neg q.v) (e ∙ sym (leading_is i p))

-- two words of 32 bits
pub two_words : (x y : ℤ) → SFits w32 x → SFits w32 y → Words32 (record { u = x; v = y })
two_words x y f g = record { upper = omega (arith, f.sfits); lower = omega (arith, g.sfits) }

-- a column that can be worked has words that a word may have, as it stands
pub taken : {H : ℤ → Type 0} {T : Pair → Type 0} → ((p : Pair) → Words32 p → T p → (negate : Bool) (s : ℕ → Bool) (n : ℕ) → n ≤ 28 → Both H (micro_rotations s n (oriented_pair negate p.u p.v))) → (p : Pair) → Words32 p → T p → Both H p
unfolding micro_rotations oriented_pair oriented
taken stays p w t = stays p w t false (λ i. true) 0 (omega arith)
