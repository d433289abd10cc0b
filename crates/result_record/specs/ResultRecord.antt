-- Document 01, "Result record": the record of R and Q, the R and Q of a record, test 8, and the tests of a record. Assumes nothing.
use Rattle.std.specs.Prelude.{ℕ, ◌+◌, ◌-◌, ◌*◌, ◌/◌, ◌%◌, Bool, true, cond, List, ltb, eqb, ℤ, get_or}
use Rattle.std.specs.Int.Signed.{non_neg}
use Rattle.integers.specs.Matrix.{Matrix, is_zero}
use Rattle.lists.specs.Lists.{tabulate, all_below}
use Rattle.words.specs.Words.{int32, byte_of}
use Rattle.refusals.specs.Refusals.{not_triangular, first, fails_unless, header_test}

-- the tag (document 01's kind byte) and the length of a result record
abbrev pub result_tag : ℕ
result_tag = 2

abbrev pub result_bytes : ℕ
result_bytes = 2049

-- ---- the record of R and Q

-- word m of the record: R row by row, words 0 to 255, then Q transposed, words 256 to 511
unfoldable pub result_word : Matrix → Matrix → ℕ → ℤ
result_word r q m = cond (ltb m 256) (r (m / 16) (m % 16)) (q ((m - 256) % 16) ((m - 256) / 16))

-- byte p of the record: the tag, then the four bytes of each word
unfoldable pub result_byte : Matrix → Matrix → ℕ → ℕ
result_byte r q p = cond (eqb p 0) result_tag (byte_of (result_word r q ((p - 1) / 4)) ((p - 1) % 4))

unfoldable pub result_record_of : Matrix → Matrix → List ℕ
result_record_of r q = tabulate result_bytes (result_byte r q)

-- ---- the R and Q of a record

-- word m of a record
unfoldable pub record_word : List ℕ → ℕ → ℤ
record_word rec m =
    int32 (get_or rec (1 + 4 * m) 0) (get_or rec (1 + 4 * m + 1) 0) (get_or rec (1 + 4 * m + 2) 0) (get_or rec (1 + 4 * m + 3) 0)

-- its R's and its Q's word (i, j)
unfoldable pub record_r : List ℕ → Matrix
record_r rec i j = record_word rec (i * 16 + j)

unfoldable pub record_q : List ℕ → Matrix
record_q rec i j = record_word rec (256 + j * 16 + i)

-- ---- test 8

-- R's word (i, j) is 0 under the diagonal, and not negative at the first 15 places of the diagonal
unfoldable pub is_finished_at : ℕ → ℕ → ℤ → Bool
is_finished_at i j w = cond (ltb j i) (is_zero w) (cond (eqb i j) (cond (ltb i 15) (non_neg w) true) true)

-- that holds of every word of R
unfoldable pub is_finished : Matrix → Bool
is_finished r = all_below 256 (λ k. is_finished_at (k / 16) (k % 16) (r (k / 16) (k % 16)))

-- 8: a word of R under the diagonal is not 0, or one of its first 15 diagonal words is negative
abbrev pub result_test : Matrix → ℕ
result_test r = fails_unless (is_finished r) not_triangular

-- ---- tests 1, 2 and 8, of a record by itself
unfoldable pub record_refusal_of : List ℕ → ℕ
record_refusal_of rec = first (header_test result_tag result_bytes rec) (result_test (record_r rec))
