-- Document 02, U14: reading a log by the reader, from place 0 and then each time at the place that the last reply has for the next entry. Assumes nothing.
use Rattle.std.specs.Prelude.{◌≡◌, List, [], ◌∷◌, ℕ, zero, suc, take, drop}
use Rattle.std.proofs.Math.Option.{Option, none, some}
use Rattle.journal.specs.declared.next.LogEntry.{LogEntry}
use Rattle.journal.specs.Entry.{Entry}
use Rattle.journal.specs.Held.{held}
use Rattle.journal.specs.Next.{log_next_of}

-- the entry that a reply is about, with its body from the buffer
abbrev pub entry_in : List ℕ → LogEntry → Entry
entry_in buffer r = record { kind = r.kind; day = r.day; body = take r.body_len (drop r.body buffer) }

-- by the reply's number and kind, and with what is read from the next place on: none where a reply is refused; at the end, which kind 0 says, nothing follows
abbrev pub read_on_by : ℕ → ℕ → Entry → Option (List Entry) → Option (List Entry)
read_on_by zero zero e others = some []
read_on_by zero (suc kind) e none = none
read_on_by zero (suc kind) e (some es) = some (e ∷ es)
read_on_by (suc n) kind e others = none

-- at most n replies, and `out` where they are not enough
unfoldable pub read_from : Option (List Entry) → ℕ → ℕ → ℕ → List ℕ → Option (List Entry)
read_from out zero at used buffer = out
read_from out (suc n) at used buffer =
    let r = log_next_of at used buffer in read_on_by r.number r.kind (entry_in buffer r) (read_from out n r.next used buffer)

-- as many replies as used bytes, and one for the end
abbrev pub read_all : Option (List Entry) → ℕ → List ℕ → Option (List Entry)
read_all out used buffer = read_from out (suc used) 0 used buffer

-- what is read are the entries that the log holds; a reply on the way is refused exactly where adding and sweeping are refused with 16. That this is so
-- whatever stands for `out` says that the replies are always enough
abbrev pub ReadsBack : Type 0
ReadsBack = (out : Option (List Entry)) (used : ℕ) (buffer : List ℕ) → read_all out used buffer ≡ held used buffer
