-- Sums and differences of signed numbers as the machine has them: what it reads back from their 64 bits. Assumes nothing.
use mathlib.Core.Path.{◌≡◌, sym, ap, ◌∙◌}
use mathlib.Core.Bool.{Bool}
use Prim.Native.Nat.{ℕ, ◌+◌, ◌^◌, ◌<◌}
use native.Mathlib.Omega.{arith}
use lib.Dec.{lit<}
use lib.IntN.{ℤ, ◌+ℤ◌, ◌-ℤ◌, ◌*ℤ◌}
use lib.Signed.{mag}
use mir.Syntax.{w16, w64}
use mir.Val.{SFits, to_z, of_z}
use mir.Facts.{to_z-of_z}
use Rattle.integers.specs.Within.{Within}
use Rattle.integers.proofs.Magnitude.{read_back}
use Rattle.integers.proofs.Within.{within-+, within--, within-*, within_fits, fits_within}

-- what is read back from the 64 bits of a number
abbrev pub read : ℤ → ℤ
read z = to_z w64 (of_z w64 z)

pub back : {z : ℤ} {n : ℕ} → Within z n → n < 2 ^ 63 → read z ≡ z
back {z} h k = to_z-of_z (within_fits w64 z h k)

-- a test of what is read back is one of the number
pub tested : (t : ℤ → Bool) (z : ℤ) {b : Bool} → mag z < 2 ^ 63 → b ≡ t (read z) → t z ≡ b
tested t z h e = sym (e ∙ ap t (read_back w64 h))

-- a number of 16 bits, and the product of two
pub short : {z : ℤ} → SFits w16 z → Within z (2 ^ 15)
short f = fits_within f

pub short_product : {x y : ℤ} → SFits w16 x → SFits w16 y → Within (x *ℤ y) (2 ^ 30)
short_product f g = within-* (short f) (short g)

pub read_short : {z : ℤ} → SFits w16 z → read z ≡ z
read_short f = back (short f) (lit< tt)

module _ {p q : ℤ} {m n : ℕ} (hp : Within p m) (hq : Within q n) (h : m + n < 2 ^ 63) where
  pub plus_fits : SFits w64 (read p +ℤ read q)
  plus_fits = rw (back hp (omega arith), back hq (omega arith)) (within_fits w64 (p +ℤ q) (within-+ hp hq) h)

  pub plus_is : read (read p +ℤ read q) ≡ p +ℤ q
  plus_is = to_z-of_z plus_fits ∙ rw (back hp (omega arith), back hq (omega arith))

  pub minus_fits : SFits w64 (read p -ℤ read q)
  minus_fits = rw (back hp (omega arith), back hq (omega arith)) (within_fits w64 (p -ℤ q) (within-- hp hq) h)

  pub minus_is : read (read p -ℤ read q) ≡ p -ℤ q
  minus_is = to_z-of_z minus_fits ∙ rw (back hp (omega arith), back hq (omega arith))
