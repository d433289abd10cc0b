-- Document 01, "Matrix record" and "The words", and document 02, U3: the elements of a matrix record, the record of elements, the real matrix made of
-- them, and which antennas are heard. Assumes nothing.
use Rattle.std.specs.Prelude.{ℕ, zero, suc, ◌+◌, ◌-◌, ◌*◌, ◌/◌, ◌%◌, ◌^◌, Bool, cond, List, ltb, eqb, ℤ, pos, neg_ℤ, get_or}
use Rattle.std.specs.Int.Signed.{lt_z}
use Rattle.integers.specs.Matrix.{Matrix}
use Rattle.lists.specs.Lists.{tabulate}
use Rattle.words.specs.Words.{int16, int16_byte}
use Rattle.refusals.specs.Refusals.{none_heard, first, fails_if, header_test}

-- the tag (document 01's kind byte) and the length of a matrix record
abbrev pub matrix_tag : ℕ
matrix_tag = 1

abbrev pub matrix_bytes : ℕ
matrix_bytes = 257

-- the real part (q is 0) and the imaginary part (q is 1) of element e: 64 elements row by row, four bytes each
unfoldable pub part_of : List ℕ → ℕ → ℕ → ℤ
part_of rec e q = int16 (get_or rec (1 + 4 * e + 2 * q) 0) (get_or rec (1 + 4 * e + 2 * q + 1) 0)

-- byte p of the record in which element e has these parts: the tag, then the two bytes of each part
unfoldable pub matrix_byte : (ℕ → ℕ → ℤ) → ℕ → ℕ
matrix_byte part p = cond (eqb p 0) matrix_tag (int16_byte (part ((p - 1) / 4) ((p - 1) / 2 % 2)) ((p - 1) % 2))

unfoldable pub matrix_record_of : (ℕ → ℕ → ℤ) → List ℕ
matrix_record_of part = tabulate matrix_bytes (matrix_byte part)

-- the input made real, 16 by 16: real parts upper left and lower right, imaginary parts lower left, their negatives upper right
unfoldable pub real_entry_of : List ℕ → Matrix
real_entry_of rec i j =
    cond (ltb i 8)
    (cond (ltb j 8) (part_of rec (i % 8 * 8 + j % 8) 0) (neg_ℤ (part_of rec (i % 8 * 8 + j % 8) 1)))
    (cond (ltb j 8) (part_of rec (i % 8 * 8 + j % 8) 1) (part_of rec (i % 8 * 8 + j % 8) 0))

-- ---- which antennas are heard

abbrev pub heard_above : ℕ
heard_above = 16

-- "Antenna k now counts as heard when the real part of element (k, k) is above 16"
unfoldable pub antenna_heard_of : List ℕ → ℕ → Bool
antenna_heard_of rec k = lt_z (pos heard_above) (part_of rec (8 * k + k) 0)

-- the bits of the heard byte below bit k: bit k, of value 2^k, is set when antenna k is heard
unfoldable pub heard_below : List ℕ → ℕ → ℕ
heard_below rec zero = 0
heard_below rec (suc k) = heard_below rec k + cond (antenna_heard_of rec k) (2 ^ k) 0

-- the heard byte
abbrev pub heard_byte_of : List ℕ → ℕ
heard_byte_of rec = heard_below rec 8

-- 4: "no antenna is heard", so that no bit would be set
abbrev pub matrix_test : List ℕ → ℕ
matrix_test rec = fails_if (eqb (heard_byte_of rec) 0) none_heard

-- ---- tests 1, 2 and 4, of a record by itself
unfoldable pub matrix_refusal : List ℕ → ℕ
matrix_refusal rec = first (header_test matrix_tag matrix_bytes rec) (matrix_test rec)
