-- Document 02, U14: a sweep on a day, what it answers and what it leaves in the buffer, on all inputs. Assumes nothing.
use Rattle.std.specs.Prelude.{ℕ, List, ◌++◌, length, drop}
use Rattle.std.proofs.Math.Option.{Option, none, some}
use Rattle.refusals.specs.Refusals.{broken_log}
use Rattle.journal.specs.Entry.{Entry, log_bytes}
use Rattle.journal.specs.Held.{held}
use Rattle.journal.specs.Retention.{keep}
use Rattle.journal.specs.Outcome.{LogOutcome, log_refused}

-- by the entries that the log holds. "A sweep closes the gaps, keeps the order ..; bytes from the new used count on stay as before the sweep". 16 is its only
-- number
unfoldable pub log_sweep_by : ℕ → Option (List Entry) → List ℕ → LogOutcome
log_sweep_by day none buffer = log_refused broken_log buffer
log_sweep_by day (some es) buffer =
    let kept = log_bytes (keep day es) in
    record { reply = record { number = 0; used = length kept }; buffer = kept ++ drop (length kept) buffer }

unfoldable pub log_sweep_of : ℕ → ℕ → List ℕ → LogOutcome
log_sweep_of day used buffer = log_sweep_by day (held used buffer) buffer
