-- Document 02, U14: a sweep of any log, whoever wrote it. Assumes nothing.
use Rattle.std.specs.Prelude.{◌≡◌, List, [], ◌++◌, ℕ, ◌+◌, ◌<◌, ◌≤◌, length, drop}
use Rattle.std.proofs.Math.Option.{some}
use Rattle.lists.specs.Histories.{Place}
use Rattle.journal.specs.Entry.{Entry}
use Rattle.journal.specs.Held.{held}
use Rattle.journal.specs.Retention.{retention, keep}
use Rattle.journal.specs.Sweep.{log_sweep_of}

-- the log holds the entries es
pub record Swept (day used : ℕ) (buffer : List ℕ) (es : List Entry) : Type 0 where
  pub accepted : (log_sweep_of day used buffer).reply.number ≡ 0
  -- "A sweep closes the gaps, keeps the order": what it leaves is a log again, and reads back as the entries that stay
  pub holds : held (log_sweep_of day used buffer).reply.used (log_sweep_of day used buffer).buffer ≡ some (keep day es)
  -- what stood behind other entries stands behind them still
  pub order : (front back : List Entry) → es ≡ front ++ back → keep day es ≡ keep day front ++ keep day back
  -- nothing is lost that should stay, and nothing stays that should go
  pub stays : (e : Entry) → Place e es → day < e.day + retention e.kind → Place e (keep day es)
  pub goes : (e : Entry) → Place e (keep day es) → Place e es × (day < e.day + retention e.kind)
  -- "bytes from the new used count on stay as before the sweep"
  pub rest : drop (log_sweep_of day used buffer).reply.used (log_sweep_of day used buffer).buffer ≡ drop (log_sweep_of day used buffer).reply.used buffer
  pub size : length (log_sweep_of day used buffer).buffer ≡ length buffer
  pub shrinks : (log_sweep_of day used buffer).reply.used ≤ used
  -- a second sweep on the day finds nothing
  pub again : log_sweep_of day (log_sweep_of day used buffer).reply.used (log_sweep_of day used buffer).buffer ≡ log_sweep_of day used buffer

abbrev pub AllSwept : Type 0
AllSwept = (day used : ℕ) (buffer : List ℕ) (es : List Entry) → held used buffer ≡ some es → Swept day used buffer es

-- "An entry dated after the sweep's day stays", and one of the day itself
abbrev pub FutureStays : Type 0
FutureStays = (day : ℕ) (e : Entry) (es : List Entry) → Place e es → day ≤ e.day → Place e (keep day es)

-- a sweep clears nothing: where no entry stays, the buffer is as it was, byte by byte
abbrev pub SweptRemains : Type 0
SweptRemains = (day used : ℕ) (buffer : List ℕ) (es : List Entry) → held used buffer ≡ some es → keep day es ≡ [] → (log_sweep_of day used buffer).buffer ≡ buffer
