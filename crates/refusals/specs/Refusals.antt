-- Document 01, the table of numbers under "Calls and the order of tests", and the new numbers of document 02. Each test of a call yields its number where
-- it fails and 0 where it passes, and `first` of the tests, in the sequence listed, is the number of the first that fails, or 0 where none does. Assumes
-- nothing.
use Rattle.std.specs.Prelude.{ℕ, zero, suc, Bool, cond, List, [], ◌∷◌, ltb, eqb, length, get_or}

-- ---- the numbers

-- no byte, or the tag (document 01's kind byte) is not the call's; or a log has no such kind of entry (document 02, U14)
abbrev pub wrong_tag : ℕ
wrong_tag = 1

-- the record's length is not the call's, or a body's not that of its kind (document 02, U14)
abbrev pub wrong_length : ℕ
wrong_length = 2

-- workspace (document 01's area) under 512 words
abbrev pub short_workspace : ℕ
short_workspace = 3

-- no antenna is heard (document 02, U3)
abbrev pub none_heard : ℕ
none_heard = 4

-- turn number above 120, or more turns made than that (document 02, U5)
abbrev pub no_such_job : ℕ
no_such_job = 5

-- turn number under 120
abbrev pub unfinished : ℕ
unfinished = 6

-- buffer too short for the record
abbrev pub short_buffer : ℕ
short_buffer = 7

-- R is not the R of a finished result
abbrev pub not_triangular : ℕ
not_triangular = 8

-- no snapshot is added up (document 02, U2)
abbrev pub none_added : ℕ
none_added = 9

-- 4,096 snapshots are added up already, the count is above that, or a sum is beyond its range (document 02, U2)
abbrev pub sums_out_of_range : ℕ
sums_out_of_range = 10

-- a diagonal word of R is 0 (document 02, U4)
abbrev pub zero_diagonal : ℕ
zero_diagonal = 11

-- sector above 7 (document 02, U7)
abbrev pub no_such_sector : ℕ
no_such_sector = 12

-- turns are asked for, for an unfinished job, and the sector has none left in the round (document 02, U7 and U10)
abbrev pub count_used_up : ℕ
count_used_up = 13

-- shares above 120 in total (document 02, U10)
abbrev pub shares_exceed_round : ℕ
shares_exceed_round = 14

-- not allowed to this role (document 02, U12)
abbrev pub not_allowed : ℕ
not_allowed = 15

-- the used bytes of a log pass the buffer or are no whole run of entries (document 02, U14)
abbrev pub broken_log : ℕ
broken_log = 16

-- the entry doesn't fit behind the used bytes (document 02, U14)
abbrev pub no_room : ℕ
no_room = 17

-- ---- tests in sequence

-- the first of two numbers that is not 0
abbrev pub first : ℕ → ℕ → ℕ
first zero rest = rest
first (suc n) rest = suc n

-- the number of a test that fails where t holds, and of one that fails where t does not hold
abbrev pub fails_if : Bool → ℕ → ℕ
fails_if t number = cond t number 0

abbrev pub fails_unless : Bool → ℕ → ℕ
fails_unless t number = cond t 0 number

-- ---- tests that many calls share

-- 1, and then 2: the header of a record with this tag and length
unfoldable pub header_test : ℕ → ℕ → List ℕ → ℕ
header_test tag size rec =
    first (fails_if (eqb (length rec) 0) wrong_tag) (first (fails_unless (eqb (get_or rec 0 0) tag) wrong_tag) (fails_unless (eqb (length rec) size) wrong_length))

-- 7: a buffer for a record of this length
abbrev pub buffer_test : ℕ → List ℕ → ℕ
buffer_test size buffer = fails_if (ltb (length buffer) size) short_buffer

-- ---- document 01, "Refusal record": the tag, then the refusal number
abbrev pub refusal_record_of : ℕ → List ℕ
refusal_record_of number = 3 ∷ number ∷ []
