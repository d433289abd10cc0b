-- Document 02, U14: adding an entry, what it answers and what it leaves in the buffer, on all inputs. Assumes nothing.
use Rattle.std.specs.Prelude.{ℕ, zero, suc, ◌+◌, List, ◌++◌, eqb, ltb, length, take, drop}
use Rattle.refusals.specs.Refusals.{first, fails_if, fails_unless, wrong_tag, wrong_length, broken_log, no_room}
use Rattle.journal.specs.Entry.{Entry, body_length_of, head_bytes, entry_bytes}
use Rattle.journal.specs.Held.{held, is_some}
use Rattle.journal.specs.Outcome.{LogOutcome, log_refused}

-- 1, "a kind other than 05 to 07", then 2, "a body of another length"
unfoldable pub entry_test : ℕ → List ℕ → ℕ
entry_test kind body =
    first (fails_if (eqb (body_length_of kind) 0) wrong_tag) (fails_unless (eqb (length body) (body_length_of kind)) wrong_length)

-- 17, "the entry doesn't fit behind the used bytes"
abbrev pub room_test : ℕ → ℕ → ℕ → ℕ
room_test size used body = fails_if (ltb size (used + (head_bytes + body))) no_room

-- 16 "before anything else", 1, 2, and 17 "last"
unfoldable pub log_add_refusal : ℕ → List ℕ → ℕ → List ℕ → ℕ
log_add_refusal kind body used buffer =
    first (fails_unless (is_some (held used buffer)) broken_log) (first (entry_test kind body) (room_test (length buffer) used (length body)))

-- by that number. The entry stands behind the used bytes, and the others are as before
unfoldable pub log_add_by : ℕ → Entry → ℕ → List ℕ → LogOutcome
log_add_by zero e used buffer =
    let end = used + length (entry_bytes e) in
    record { reply = record { number = 0; used = end }; buffer = take used buffer ++ entry_bytes e ++ drop end buffer }
log_add_by (suc n) e used buffer = log_refused (suc n) buffer

unfoldable pub log_add_of : ℕ → ℕ → List ℕ → ℕ → List ℕ → LogOutcome
log_add_of kind day body used buffer = log_add_by (log_add_refusal kind body used buffer) (record { kind = kind; day = day; body = body }) used buffer
