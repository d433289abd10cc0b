-- The range of a matrix record's numbers, and the four quarters of the real matrix made of them. Assumes nothing.
use mathlib.Core.Path.{◌≡◌}
use mathlib.Core.Bool.{Bool, true, false, cond}
use mathlib.Core.List.{List}
use Prim.Native.Nat.{ℕ, ◌+◌, ◌*◌, ◌%◌, ◌^◌, ◌<◌, ◌≤◌}
use native.Mathlib.Omega.{arith}
use lib.Dec.{ltb}
use borrow.Author.Tests.{lt-ltb, le-ltb}
use lib.IntN.{ℤ, neg_ℤ, nat_abs}
use lib.ListN.{get_or}
use lib.Signed.{mag, nat_abs-le}
use mir.Syntax.{w16}
use mir.Val.{Fits}
use mir.Facts.{sfits_to_z}
use Rattle.integers.proofs.Laws.{abs_neg}
use Rattle.matrix_record.specs.MatrixRecord.{part_of, real_entry_of}

-- a property of both arms of a choice
either : (P : ℤ → Type 0) (b : Bool) (x y : ℤ) → P x → P y → P (cond b x y)
either P true x y p q = p
either P false x y p q = q

module _ (rec : List ℕ) (bytes : (k : ℕ) → get_or rec k 0 < 256) where
  pub part_small : (e q : ℕ) → mag (part_of rec e q) < 32768
  unfolding part_of
  part_small e q =
      let a = bytes (1 + 4 * e + 2 * q) in
      let b = bytes (1 + 4 * e + 2 * q + 1) in
      let f : Fits w16 (get_or rec (1 + 4 * e + 2 * q) 0 * 256 + get_or rec (1 + 4 * e + 2 * q + 1) 0) = omega arith in
      (sfits_to_z {w = w16} f).sfits

  pub entry_small : (i j : ℕ) → nat_abs (real_entry_of rec i j) ≤ 2 ^ 15
  unfolding real_entry_of
  entry_small i j =
      let e : ℕ = i % 8 * 8 + j % 8 in
      let P : ℤ → Type 0 = λ (z : ℤ). nat_abs z ≤ 2 ^ 15 in
      let re : P (part_of rec e 0) = nat_abs-le (part_of rec e 0) (part_small e 0) in
      let im : P (part_of rec e 1) = nat_abs-le (part_of rec e 1) (part_small e 1) in
      let ng : P (neg_ℤ (part_of rec e 1)) = rw (abs_neg (part_of rec e 1)) im in
      either P (ltb i 8) _ _ (either P (ltb j 8) _ _ re ng) (either P (ltb j 8) _ _ im re)

-- ---- element (i, j) in the four quarters of the real matrix

first_half : (k : ℕ) → k < 8 → k % 8 ≡ k
first_half k h = omega arith

second_half : (k : ℕ) → k < 8 → (8 + k) % 8 ≡ k
second_half k h = omega arith

not_first : (k : ℕ) → 8 ≤ 8 + k
not_first k = omega arith

module _ (rec : List ℕ) (i j : ℕ) (p : i < 8) (q : j < 8) where
  pub upper-left : real_entry_of rec i j ≡ part_of rec (i * 8 + j) 0
  unfolding real_entry_of
  upper-left = rw (lt-ltb i 8 p, lt-ltb j 8 q, first_half i p, first_half j q)

  pub upper_right : real_entry_of rec i (8 + j) ≡ neg_ℤ (part_of rec (i * 8 + j) 1)
  unfolding real_entry_of
  upper_right = rw (lt-ltb i 8 p, le-ltb (8 + j) 8 (not_first j), first_half i p, second_half j q)

  pub lower-left : real_entry_of rec (8 + i) j ≡ part_of rec (i * 8 + j) 1
  unfolding real_entry_of
  lower-left = rw (le-ltb (8 + i) 8 (not_first i), lt-ltb j 8 q, second_half i p, first_half j q)

  pub lower_right : real_entry_of rec (8 + i) (8 + j) ≡ part_of rec (i * 8 + j) 0
  unfolding real_entry_of
  lower_right = rw (le-ltb (8 + i) 8 (not_first i), le-ltb (8 + j) 8 (not_first j), second_half i p, second_half j q)
