-- What the number of tests in sequence says: 0 that each is passed, another that it is the first. Assumes nothing.
use mathlib.Core.Path.{◌≡◌, refl}
use mathlib.Core.Bool.{Bool, true, false}
use mathlib.Core.List.{List}
use Prim.Native.Nat.{ℕ, zero, suc, ◌≤◌}
use native.Mathlib.Omega.{arith}
use borrow.Author.Tests.{eqb-true, ltb-false, le-ltb, eq-eqb, ne_eqb}
use lib.Dec.{eqb, ltb}
use lib.ListN.{length, get_or}
use Rattle.refusals.specs.Refusals.{first, fails_if, fails_unless, header_test, buffer_test}

-- a number that is not 0 comes first
pub first_is : (n rest : ℕ) → (n ≡ 0 → ⊥) → n ≡ first n rest
first_is zero rest f = absurd (f refl)
first_is (suc n) rest f = refl

-- a test that is passed adds nothing
pub first_alone : (n : ℕ) → first n 0 ≡ n
first_alone zero = refl
first_alone (suc n) = refl

-- of three tests in sequence any two may be taken together
pub first_pairs : (a b c : ℕ) → first a (first b c) ≡ first (first a b) c
first_pairs zero b c = refl
first_pairs (suc n) b c = refl

-- where the first is 0, both are
pub first-none : (n rest : ℕ) → first n rest ≡ 0 → (n ≡ 0) × (rest ≡ 0)
first-none zero rest h = (refl, h)
first-none (suc n) rest h = absurd (omega arith)

-- where the first that fails has a number that this test does not give, this one is passed
pub first_past : (n rest m : ℕ) → (n ≡ suc m → ⊥) → first n rest ≡ suc m → (n ≡ 0) × (rest ≡ suc m)
first_past zero rest m f h = (refl, h)
first_past (suc n) rest m f h = absurd (f h)

pub if_other : (t : Bool) (n m : ℕ) → (n ≡ suc m → ⊥) → fails_if t n ≡ suc m → ⊥
if_other true n m f h = f h
if_other false n m f h = omega arith

-- a test that yields 0 is passed
pub if_passed : (t : Bool) (n : ℕ) → fails_if t (suc n) ≡ 0 → t ≡ false
if_passed true n h = absurd (omega arith)
if_passed false n h = refl

pub unless_passed : (t : Bool) (n : ℕ) → fails_unless t (suc n) ≡ 0 → t ≡ true
unless_passed true n h = refl
unless_passed false n h = absurd (omega arith)

-- ---- a record's header

pub record Header (tag size : ℕ) (rec : List ℕ) : Type 0 where
  pub tagged : get_or rec 0 0 ≡ tag
  pub sized : length rec ≡ size

pub header_passed : (tag size : ℕ) (rec : List ℕ) → header_test tag size rec ≡ 0 → Header tag size rec
unfolding header_test
header_passed tag size rec h =
    let a = first-none (fails_if (eqb (length rec) 0) 1) _ h in
    let b = first-none (fails_unless (eqb (get_or rec 0 0) tag) 1) _ a.1 in
    record { tagged = eqb-true _ _ (unless_passed (eqb (get_or rec 0 0) tag) 0 b.0); sized = eqb-true _ _ (unless_passed (eqb (length rec) size) 1 b.1) }

pub header_passes : (tag size : ℕ) (rec : List ℕ) → Header tag (suc size) rec → header_test tag (suc size) rec ≡ 0
unfolding header_test
header_passes tag size rec h =
    let a : eqb (length rec) 0 ≡ false = ne_eqb (length rec) 0 (λ e. omega (arith, h.sized)) in
    simp (a, eq-eqb _ _ h.tagged, eq-eqb _ _ h.sized)

-- no other number than 1 and 2
pub header_number : (tag size : ℕ) (rec : List ℕ) → header_test tag size rec ≤ 2
unfolding header_test
header_number tag size rec = go (eqb (length rec) 0) (eqb (get_or rec 0 0) tag) (eqb (length rec) size)
  where
    go : (a b c : Bool) → first (fails_if a 1) (first (fails_unless b 1) (fails_unless c 2)) ≤ 2
    go true b c = omega arith
    go false false c = omega arith
    go false true false = omega arith
    go false true true = omega arith

-- ---- a buffer

pub buffer_passed : (size : ℕ) (buffer : List ℕ) → buffer_test size buffer ≡ 0 → size ≤ length buffer
buffer_passed size buffer h = ltb-false _ _ (if_passed (ltb (length buffer) size) 6 h)

pub buffer-passes : (size : ℕ) (buffer : List ℕ) → size ≤ length buffer → buffer_test size buffer ≡ 0
buffer-passes size buffer h = rw (le-ltb (length buffer) size h)
