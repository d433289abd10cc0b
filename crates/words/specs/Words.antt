-- Document 01: numbers in records are two's complement, high byte first. `to_z` and `of_z` are the language's own two's complement:
-- `to_z w n` is the signed number that the bits n stand for, and `of_z w z` the bits of z. Document 02's day numbers are unsigned. Assumes nothing.
use Rattle.std.specs.Prelude.{ℕ, ◌+◌, ◌-◌, ◌*◌, ◌/◌, ◌%◌, ◌^◌, ◌<◌, List, [], ◌∷◌, ℤ, get_or}
use Rattle.std.specs.Int.{w16, w32}
use Rattle.std.proofs.Common.{to_z, of_z}

-- what a lent slice of bytes always is
abbrev pub Bytes : List ℕ → Type 0
Bytes bytes = (k : ℕ) → get_or bytes k 0 < 256

-- the signed 16-bit number in two bytes
abbrev pub int16 : ℕ → ℕ → ℤ
int16 high low = to_z w16 (high * 256 + low)

-- byte number p of a signed 16-bit number, 0 or 1, high byte first
abbrev pub int16_byte : ℤ → ℕ → ℕ
int16_byte z p = of_z w16 z / 2 ^ (8 - 8 * p) % 256

-- its two bytes
abbrev pub int16_bytes_of : ℤ → List ℕ
int16_bytes_of z = int16_byte z 0 ∷ int16_byte z 1 ∷ []

-- the unsigned 32-bit number in four bytes
abbrev pub uint32 : ℕ → ℕ → ℕ → ℕ → ℕ
uint32 a b c d = a * 16777216 + b * 65536 + c * 256 + d

-- the four bytes of an unsigned number below 2^32
abbrev pub uint32_bytes_of : ℕ → List ℕ
uint32_bytes_of n = n / 16777216 ∷ n / 65536 % 256 ∷ n / 256 % 256 ∷ n % 256 ∷ []

-- the signed 32-bit word in four bytes
abbrev pub int32 : ℕ → ℕ → ℕ → ℕ → ℤ
int32 a b c d = to_z w32 (uint32 a b c d)

-- byte number p of a word, 0 to 3, high byte first
abbrev pub byte_of : ℤ → ℕ → ℕ
byte_of z p = of_z w32 z / 2 ^ (24 - 8 * p) % 256

-- the four bytes of a word
abbrev pub word_bytes : ℤ → List ℕ
word_bytes z = byte_of z 0 ∷ byte_of z 1 ∷ byte_of z 2 ∷ byte_of z 3 ∷ []
