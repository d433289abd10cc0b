-- Document 02, U14: lists of adds and sweeps, refused ones among them, each handed the used count that the caller has by then. Each call does what its own
-- definition says, which its contract equates the code with. Between them the caller may write what it likes behind the used bytes, as one does that clears what
-- was swept. Assumes nothing.
use Rattle.std.specs.Prelude.{List, ◌++◌, ℕ, ◌-◌, length, take}
use Rattle.lists.specs.Lists.{tabulate}
use Rattle.lists.specs.Histories.{after_all}
use Rattle.journal.specs.Outcome.{LogOutcome, used_after_of}
use Rattle.journal.specs.Add.{log_add_of}
use Rattle.journal.specs.Sweep.{log_sweep_of}

-- an add with kind, day and body, a sweep on a day, or the caller writes behind the used bytes, byte after byte
pub data Call : Type 0 where
  add : ℕ → ℕ → List ℕ → Call
  sweep : ℕ → Call
  fill : (ℕ → ℕ) → Call

-- what the caller has between two calls: the count of used bytes, and the buffer
pub record Log : Type 0 where
  pub used : ℕ
  pub buffer : List ℕ

-- a log of no entries in a buffer of any bytes
abbrev pub empty_log : List ℕ → Log
empty_log buffer = record { used = 0; buffer = buffer }

unfoldable pub outcome : Log → Call → LogOutcome
outcome l (add kind day body) = log_add_of kind day body l.used l.buffer
outcome l (sweep day) = log_sweep_of day l.used l.buffer
outcome l (fill f) =
    record { reply = record { number = 0; used = l.used }; buffer = take l.used l.buffer ++ tabulate (length l.buffer - l.used) f }

-- the number of the first test that fails, 0 for none
abbrev pub number : Log → Call → ℕ
number l c = (outcome l c).reply.number

-- the used count of the last accepted call goes to the next one
unfoldable pub next : Log → Call → Log
next l c = record { used = used_after_of (number l c) (outcome l c).reply.used l.used; buffer = (outcome l c).buffer }

abbrev pub after : Log → List Call → Log
after l calls = after_all next l calls
