-- A word and its four bytes, signed and unsigned, and a 16-bit number and its two: reading what was written gives the number, and writing what was read
-- gives the bytes. Assumes nothing.
use mathlib.Core.Path.{◌≡◌, refl, ap, ◌∙◌}
use Prim.Native.Nat.{ℕ, zero, suc, ◌+◌, ◌*◌, ◌/◌, ◌%◌, ◌<◌}
use mathlib.Core.List.{[], ◌∷◌}
use native.Mathlib.Nat.{div-one, div-add-mod', div-div-eq-div-mul, mod-eq_of_lt}
use native.Mathlib.Omega.{arith}
use lib.IntN.{ℤ}
use mir.Syntax.{w16, w32}
use mir.Val.{SFits, to_z, of_z}
use mir.Facts.{to_z-of_z, of_z-to_z, Fits-of_z}
use Rattle.words.specs.Words.{int16, int16_byte, uint32, uint32_bytes_of, int32, byte_of}

-- ---- 16 bits

pub int16_again : (z : ℤ) → SFits w16 z → int16 (int16_byte z 0) (int16_byte z 1) ≡ z
int16_again z f = ap (to_z w16) (two_digits (of_z w16 z) (Fits-of_z f).fits) ∙ to_z-of_z f
  where
    two_digits : (n : ℕ) → n < 65536 → n / 256 % 256 * 256 + n / 1 % 256 ≡ n
    two_digits n h = let t : n / 256 < 256 = omega arith in rw (div-one n, mod-eq_of_lt t) (div-add-mod' n 256)

-- ---- 32 bits

-- four digits to base 256: x is the number, p, q and r its quotients
join : (x p q r a b c d : ℕ) → p * 256 + d ≡ x → q * 256 + c ≡ p → r * 256 + b ≡ q → a ≡ r → uint32 a b c d ≡ x
join x p q r a b c d e f g h = omega arith

pub uint32_again : (n : ℕ) → uint32 (n / 16777216) (n / 65536 % 256) (n / 256 % 256) (n % 256) ≡ n
uint32_again n =
    join n (n / 256) (n / 65536) (n / 16777216) _ _ _ _
    (div-add-mod' n 256)
    (rw (← div-div-eq-div-mul n 256 256) (div-add-mod' (n / 256) 256))
    (rw (← div-div-eq-div-mul n 65536 256) (div-add-mod' (n / 65536) 256))
    refl

digits : (n : ℕ) → n < 4294967296 → uint32 (n / 16777216 % 256) (n / 65536 % 256) (n / 256 % 256) (n / 1 % 256) ≡ n
digits n h = let t : n / 16777216 < 256 = omega arith in rw (mod-eq_of_lt t, div-one n) (uint32_again n)

pub word_again : (z : ℤ) → SFits w32 z → int32 (byte_of z 0) (byte_of z 1) (byte_of z 2) (byte_of z 3) ≡ z
word_again z f = ap (to_z w32) (digits (of_z w32 z) (Fits-of_z f).fits) ∙ to_z-of_z f

-- byte q of four
abbrev pub one_of : ℕ → ℕ → ℕ → ℕ → ℕ → ℕ
one_of a b c d zero = a
one_of a b c d (suc zero) = b
one_of a b c d (suc (suc zero)) = c
one_of a b c d (suc (suc (suc q))) = d

module _ (a b c d : ℕ) (ha : a < 256) (hb : b < 256) (hc : c < 256) (hd : d < 256) where
  bits : of_z w32 (int32 a b c d) ≡ uint32 a b c d
  bits = of_z-to_z {w = w32} (omega arith)

  pub byte_again : (q : ℕ) → q < 4 → byte_of (int32 a b c d) q ≡ one_of a b c d q
  byte_again zero h = rw bits (omega arith)
  byte_again (suc zero) h = rw bits (omega arith)
  byte_again (suc (suc zero)) h = rw bits (omega arith)
  byte_again (suc (suc (suc zero))) h = rw bits (omega arith)
  byte_again (suc (suc (suc (suc q)))) h = absurd (omega arith)

  pub bytes_again : uint32_bytes_of (uint32 a b c d) ≡ a ∷ b ∷ c ∷ d ∷ []
  bytes_again =
      let e : uint32 a b c d / 16777216 ≡ a = omega arith in
      let f : uint32 a b c d / 65536 % 256 ≡ b = omega arith in
      let g : uint32 a b c d / 256 % 256 ≡ c = omega arith in
      let h : uint32 a b c d % 256 ≡ d = omega arith in
      rw (e, f, g, h)
