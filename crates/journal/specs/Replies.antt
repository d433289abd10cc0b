-- What a call of the library answers, as C has it: the reply of an add or a sweep, and the entry at a place. Assumes nothing.
use Rattle.std.specs.Prelude.{ℕ, ◌-◌, Result, Ok, Err, Option, Some, None}
use Rattle.refusals.specs.declared.Refusal.{Refusal}
use Rattle.refusals.specs.Outcomes.{number_of}
use Rattle.journal.specs.declared.LogReply.{LogReply}
use Rattle.journal.specs.declared.next.FoundEntry.{FoundEntry}
use Rattle.journal.specs.declared.next.LogEntry.{LogEntry}
use Rattle.journal.specs.Kind.{kind_number}
use Rattle.journal.specs.Next.{no_entry}

abbrev pub log_reply : Result ℕ Refusal → LogReply
log_reply (Ok used) = record { number = 0; used = used }
log_reply (Err refusal) = record { number = number_of refusal; used = 0 }

abbrev pub log_entry : ℕ → Result (Option FoundEntry) Refusal → LogEntry
log_entry at (Ok (Some e)) =
    record { number = 0; kind = kind_number e.kind; day = e.day; body = e.body.start; body_len = e.body.end - e.body.start; next = e.body.end }
log_entry at (Ok None) = no_entry at
log_entry at (Err refusal) = record { number = number_of refusal; kind = 0; day = 0; body = 0; body_len = 0; next = 0 }
