-- Laws of what rotations count: none, several together, and that one rotation counts no more than `CountOf 1` says. Assumes nothing.
use Prim.Native.Nat.{ℕ, ◌+◌, ◌≤◌}
use native.Mathlib.Nat.{zero-add, add-zero, add_assoc}
use native.Mathlib.Omega.{arith}
use mathlib.Core.Path.{◌≡◌}
use mathlib.Core.Bool.{Bool, true, false, cond}
use mathlib.Core.List.{List}
use lib.Dec.{ltb, eqb}
use lib.IntN.{ℤ}
use mir.Val.{bool_byte}
use Rattle.integers.proofs.Sum.{total_le}
use Rattle.rotation.specs.declared.Saturations.{Saturations}
use Rattle.rotation.specs.Column.{column_stored}
use Rattle.rotation.specs.Rotated.{saturations_at, saturations_of}
use Rattle.rotation.specs.Saturations.{no_saturations, added, CountOf}

-- ---- several together

-- what is the same on each side is the same
pub sides : {a b c d : ℕ} → a ≡ b → c ≡ d → ◌≡◌ {A = Saturations} (record { r = a; q = c }) (record { r = b; q = d })
sides e f = λ i. record { r = e i; q = f i }

pub none_added_lem : (s : Saturations) → added no_saturations s ≡ s
unfolding added
none_added_lem s = sides (zero-add s.r) (zero-add s.q)

pub added_none : (s : Saturations) → added s no_saturations ≡ s
unfolding added
added_none s = sides (add-zero s.r) (add-zero s.q)

pub added_assoc : (a b c : Saturations) → added (added a b) c ≡ added a (added b c)
unfolding added
added_assoc a b c = sides (add_assoc a.r b.r c.r) (add_assoc a.q b.q c.q)

-- ---- how many

pub count_none : CountOf 0 no_saturations
count_none = record { r = omega arith; q = omega arith }

pub count_more : {m n : ℕ} {a b : Saturations} → CountOf m a → CountOf n b → CountOf (m + n) (added a b)
unfolding added
count_more h k = record { r = omega (arith, h.r, k.r); q = omega (arith, h.q, k.q) }

pub count_le : {m n : ℕ} {s : Saturations} → CountOf m s → m ≤ n → CountOf n s
count_le h le = record { r = omega (arith, h.r); q = omega (arith, h.q) }

-- a word counts once at most
pub byte_le : (b : Bool) → bool_byte b ≤ 1
byte_le true = omega arith
byte_le false = omega arith

-- so a column counts twice at most
column_le : (first leading upper lower : Bool) → cond first 0 (bool_byte upper + cond leading 0 (bool_byte lower)) ≤ 2
column_le true leading upper lower = omega arith
column_le false true upper lower = omega (arith, byte_le upper)
column_le false false upper lower = omega (arith, byte_le upper, byte_le lower)

column_few : (c gap : ℕ) (l : List ℤ) (j : ℕ) → saturations_at c gap l j ≤ 2
unfolding saturations_at
column_few c gap l j = column_le (ltb j c) (eqb j c) (column_stored c gap l j).upper.saturated (column_stored c gap l j).lower.saturated

pub count_one : (c gap : ℕ) (l : List ℤ) → CountOf 1 (saturations_of c gap l)
unfolding saturations_of
count_one c gap l =
    record {
      r = total_le 16 2 (saturations_at c gap l) (column_few c gap l);
      q = total_le 16 2 (λ j. saturations_at c gap l (16 + j)) (λ j. column_few c gap l (16 + j));
    }
