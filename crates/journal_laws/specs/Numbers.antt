-- Document 02, U14: 16 "before anything else", 1, "then" 2, and 17 "last", in numbers: one table, and one statement over all its rows, computed from the
-- definitions that the contracts cite. Where it can, a refused row fails the tests that follow as well, so that the rows tell the sequence of the tests. Assumes
-- nothing.
use Rattle.std.specs.Prelude.{◌≡◌, refl, List, [], ◌∷◌, ◌++◌, ℕ, replicate}
use Rattle.journal.specs.Entry.{body_length_of, entry_bytes, log_bytes}
use Rattle.journal.specs.Held.{first_size, first_entry, up_to, entries, held}
use Rattle.journal.specs.Retention.{retention, is_kept, keep}
use Rattle.journal.specs.Add.{entry_test, log_add_refusal, log_add_by, log_add_of}
use Rattle.journal.specs.Sweep.{log_sweep_by, log_sweep_of}
use Rattle.journal.specs.Next.{log_next_of}

-- a call with what it is handed, and the number that it answers
pub data LogExample : Type 0 where
  -- kind, body, used count and buffer
  adding : ℕ → List ℕ → ℕ → List ℕ → ℕ → LogExample
  -- used count and buffer
  sweeping : ℕ → List ℕ → ℕ → LogExample
  -- place, used count and buffer
  reading : ℕ → ℕ → List ℕ → ℕ → LogExample

-- on day 100, which counts for no number
abbrev pub LogNumber : LogExample → Type 0
LogNumber (adding kind body used buffer n) = (log_add_of kind 100 body used buffer).reply.number ≡ n
LogNumber (sweeping used buffer n) = (log_sweep_of 100 used buffer).reply.number ≡ n
LogNumber (reading at used buffer n) = (log_next_of at used buffer).number ≡ n

abbrev pub AllLogNumbers : List LogExample → Type 0
AllLogNumbers [] = Unit {0}
AllLogNumbers (x ∷ xs) = LogNumber x × AllLogNumbers xs

-- a heard byte of day 100, and that with a refusal behind it
abbrev pub one_entry : List ℕ
one_entry = 7 ∷ 0 ∷ 0 ∷ 0 ∷ 100 ∷ 255 ∷ []

abbrev pub two_entries : List ℕ
two_entries = one_entry ++ 6 ∷ 0 ∷ 0 ∷ 0 ∷ 100 ∷ 4 ∷ []

unfoldable pub log_examples : List LogExample
log_examples =
    -- 16: the used bytes pass the buffer, end within an entry, or hold what is no kind
    adding 8 (1 ∷ 2 ∷ []) 13 two_entries 16
    ∷ adding 8 (1 ∷ 2 ∷ []) 11 two_entries 16
    ∷ adding 6 (1 ∷ 2 ∷ []) 11 two_entries 16
    ∷ adding 6 (1 ∷ []) 11 two_entries 16
    ∷ adding 6 (1 ∷ []) 1 two_entries 16
    ∷ adding 6 [] 6 (4 ∷ 0 ∷ 0 ∷ 0 ∷ 100 ∷ 255 ∷ []) 16
    ∷ adding 6 [] 6 (8 ∷ 0 ∷ 0 ∷ 0 ∷ 100 ∷ 255 ∷ []) 16
    ∷ adding 8 [] 6 (5 ∷ 0 ∷ 0 ∷ 0 ∷ 100 ∷ 255 ∷ []) 16
    -- 1: a kind other than 05 to 07; 261 is no byte, and not 5
    ∷ adding 4 (1 ∷ 2 ∷ []) 12 two_entries 1
    ∷ adding 8 (1 ∷ 2 ∷ []) 12 two_entries 1
    ∷ adding 8 [] 12 two_entries 1
    ∷ adding 0 [] 0 [] 1
    ∷ adding 261 (replicate 2049 0) 12 two_entries 1
    -- 2: a body of another length
    ∷ adding 5 (replicate 2048 0) 12 two_entries 2
    ∷ adding 5 (replicate 2050 0) 12 two_entries 2
    ∷ adding 6 [] 12 two_entries 2
    ∷ adding 6 (1 ∷ 2 ∷ []) 12 two_entries 2
    ∷ adding 7 [] 12 two_entries 2
    ∷ adding 7 (1 ∷ 2 ∷ []) 12 two_entries 2
    -- 17: one byte too few; and one that fits exactly
    ∷ adding 6 (1 ∷ []) 6 (one_entry ++ replicate 5 0) 17
    ∷ adding 6 (1 ∷ []) 6 (one_entry ++ replicate 6 0) 0
    ∷ adding 7 (1 ∷ []) 12 two_entries 17
    ∷ adding 5 (replicate 2049 0) 6 (one_entry ++ replicate 2053 0) 17
    ∷ adding 5 (replicate 2049 0) 6 (one_entry ++ replicate 2054 0) 0
    -- no used bytes are a whole run of no entries
    ∷ adding 7 (1 ∷ []) 0 [] 17
    ∷ adding 7 (1 ∷ []) 0 (replicate 6 9) 0
    -- a sweep: 16 and no other number
    ∷ sweeping 13 two_entries 16
    ∷ sweeping 11 two_entries 16
    ∷ sweeping 6 (4 ∷ 0 ∷ 0 ∷ 0 ∷ 100 ∷ 255 ∷ []) 16
    ∷ sweeping 12 two_entries 0
    ∷ sweeping 0 [] 0
    -- the reader: the used bytes pass the buffer, the place passes them, or no whole entry stands there; at the end it is no refusal
    ∷ reading 0 13 two_entries 16
    ∷ reading 13 12 two_entries 16
    ∷ reading 0 5 two_entries 16
    ∷ reading 6 11 two_entries 16
    ∷ reading 1 12 two_entries 16
    ∷ reading 0 12 two_entries 0
    ∷ reading 6 12 two_entries 0
    ∷ reading 12 12 two_entries 0
    ∷ reading 0 0 [] 0
    ∷ []

pub log_numbered : AllLogNumbers log_examples
unfolding log_examples body_length_of entry_bytes log_bytes first_size first_entry up_to entries held retention is_kept keep entry_test log_add_refusal log_add_by log_add_of log_sweep_by log_sweep_of log_next_of
log_numbered =
    (refl, (refl, (refl, (refl, (refl, (refl, (refl, (refl, (refl, (refl, (refl, (refl, (refl, (refl, (refl, (refl, (refl, (refl, (refl, (refl, (refl, (refl, (refl, (refl, (refl, (refl, (refl, (refl, (refl, (refl, (refl, (refl, (refl, (refl, (refl, (refl, (refl, (refl, (refl, (refl, tt))))))))))))))))))))))))))))))))))))))))
