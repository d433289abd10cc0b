-- What the order of the rotations gives: a position that a rotation cleared is left alone by all later rotations, and a rotation finds zeros before its leading column.
-- One claim over the whole order, which antt tests, and a law that carries it to each rotation.
-- Assumes nothing.
use mathlib.Core.Path.{◌≡◌, refl, sym, subst}
use mathlib.Core.List.{List, [], ◌∷◌}
use Prim.Native.Nat.{ℕ, zero, suc, ◌≤◌, ◌<◌}
use native.Mathlib.Nat.{le_of_suc-le-suc, not-suc-le-zero}
use lib.ListN.{length, get_or}
use Rattle.schedule.specs.declared.Rotation.{Rotation}
use Rattle.schedule.specs.Schedule.{stage_rotations, survivors, stages, up_from, column_stages, stages_rotations, columns_rotations, schedule, no_rotation, rotation_at_of}
use Rattle.integers.proofs.Claim.{Claim, always, never, less, same, other, both, either, Means, sound, each}
use Rattle.schedule.specs.Pairing.{rotations_120}

-- ---- the claims

-- the rows are two of the sixteen, and stand on the diagonal of the leading column or below
abbrev pub shape : Rotation → Claim
shape t = both (less t.column (suc t.upper)) (both (less t.upper t.lower) (less t.lower 16))

-- the earlier rotation d stands in an earlier column; or in the same, and t does not name the row that d cleared
abbrev pub elsewhere : Rotation → Rotation → Claim
elsewhere d t =
    either (less d.column t.column) (both (same d.column t.column) (both (other d.lower t.upper) (other d.lower t.lower)))

abbrev pub apart : Rotation → Rotation → Claim
apart d t = both (shape d) (elsewhere d t)

unfoldable pub all_apart : List Rotation → Rotation → Claim
all_apart [] t = always
all_apart (d ∷ ds) t = both (apart d t) (all_apart ds t)

-- a rotation of the list cleared row r of column c
unfoldable pub cleared : List Rotation → ℕ → ℕ → Claim
cleared [] r c = never
cleared (d ∷ ds) r c = either (both (same d.lower r) (same d.column c)) (cleared ds r c)

-- a rotation of the list had row r for its upper one in column c
unfoldable pub raised : List Rotation → ℕ → ℕ → Claim
raised [] r c = never
raised (d ∷ ds) r c = either (both (same d.upper r) (same d.column c)) (raised ds r c)

-- rotation t after the rotations ds: its rows were cleared in all columns before its own
abbrev pub fits : List Rotation → Rotation → Claim
fits ds t = both (both (shape t) (all_apart ds t)) (each t.column (λ c. both (cleared ds t.upper c) (cleared ds t.lower c)))

-- each rotation of a list fits after those before it; ds are the rotations made, the last one first
all_fit : List Rotation → List Rotation → Claim
all_fit ds [] = always
all_fit ds (t ∷ ts) = both (fits ds t) (all_fit (t ∷ ds) ts)

-- ---- the law

-- the rotations made, the last one first, when k rotations of ts are made after ds
unfoldable pub before : List Rotation → List Rotation → ℕ → List Rotation
before ds ts zero = ds
before ds [] (suc k) = ds
before ds (t ∷ ts) (suc k) = before (t ∷ ds) ts k

fits_from : (ds ts : List Rotation) → Means (all_fit ds ts) → (k : ℕ) → k < length ts → Means (fits (before ds ts k) (get_or ts k no_rotation))
unfolding all_fit before
fits_from ds [] p k h = absurd (not-suc-le-zero h)
fits_from ds (t ∷ ts) p zero h = p.0
fits_from ds (t ∷ ts) p (suc k) h = fits_from (t ∷ ds) ts p.1 k (le_of_suc-le-suc h)

before-next : (ds ts : List Rotation) (k : ℕ) → k < length ts → before ds ts (suc k) ≡ get_or ts k no_rotation ∷ before ds ts k
unfolding before
before-next ds [] k h = absurd (not-suc-le-zero h)
before-next ds (t ∷ ts) zero h = refl
before-next ds (t ∷ ts) (suc k) h = before-next (t ∷ ds) ts k (le_of_suc-le-suc h)

-- rotations 0 to k - 1 of the schedule, the last one first
unfoldable pub done : ℕ → List Rotation
done k = before [] schedule k

pub done_none : done 0 ≡ []
unfolding done before
done_none = refl

in_order : {k : ℕ} → k < 120 → k < length schedule
in_order {k} h = subst (λ (n : ℕ). k < n) (sym rotations_120) h

pub done_next : (k : ℕ) → k < 120 → done (suc k) ≡ rotation_at_of k ∷ done k
unfolding done rotation_at_of
done_next k h = before-next [] schedule k (in_order h)

order_fits : Means (all_fit [] schedule)
unfolding all_fit all_apart each cleared schedule columns_rotations stages_rotations column_stages stages survivors up_from stage_rotations
order_fits = sound (all_fit [] schedule) tt

pub next_fits : (k : ℕ) → k < 120 → Means (fits (done k) (rotation_at_of k))
unfolding done rotation_at_of
next_fits k h = fits_from [] schedule order_fits k (in_order h)

pub rotation_shape : (k : ℕ) → k < 120 → ((rotation_at_of k).column ≤ (rotation_at_of k).upper) × ((rotation_at_of k).upper < (rotation_at_of k).lower) × ((rotation_at_of k).lower < 16)
rotation_shape k h = let m = (next_fits k h).0.0 in (le_of_suc-le-suc m.0, m.1.0, m.1.1)
