-- Document 02, U14: reading the log entry by entry, what is answered for a place, on all inputs. The document leaves the reader open; docs/DECISIONS.md says
-- why it is as it is. Assumes nothing.
use Rattle.std.specs.Prelude.{ℕ, zero, suc, ◌+◌, cond, List, eqb, ltb, length, take, drop}
use Rattle.refusals.specs.Refusals.{broken_log}
use Rattle.journal.specs.Entry.{Entry, body_length_of, head_bytes}
use Rattle.journal.specs.Held.{first_size, first_entry}
use Rattle.journal.specs.declared.next.LogEntry.{LogEntry}

abbrev pub refused_entry : LogEntry
refused_entry = record { number = broken_log; kind = 0; day = 0; body = 0; body_len = 0; next = 0 }

-- at the end stands no entry, which kind 0 says; there an add puts the next one
abbrev pub no_entry : ℕ → LogEntry
no_entry used = record { number = 0; kind = 0; day = 0; body = 0; body_len = 0; next = used }

-- by the size of the entry at the place, 0 where no whole one stands there: its kind and day, where its body stands and how long that is, and where the next
-- entry stands
abbrev pub log_next_by : ℕ → ℕ → Entry → LogEntry
log_next_by zero at e = refused_entry
log_next_by (suc n) at e =
    record { number = 0; kind = e.kind; day = e.day; body = at + head_bytes; body_len = body_length_of e.kind; next = at + suc n }

-- 16: the used bytes pass the buffer, the place passes them, or no whole entry stands there
unfoldable pub log_next_of : ℕ → ℕ → List ℕ → LogEntry
log_next_of at used buffer =
    let here = drop at (take used buffer) in
    cond (ltb (length buffer) used) refused_entry
    (cond (ltb used at) refused_entry
    (cond (eqb at used) (no_entry used)
    (log_next_by (first_size here) at (first_entry here))))
