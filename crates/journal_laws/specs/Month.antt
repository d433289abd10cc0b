-- A month in a log of twelve bytes, ninety days with a heard byte, and a week with a result: the theorems' premises, met. Assumes nothing.
use Rattle.std.specs.Prelude.{◌≡◌, List, [], ◌∷◌, ◌++◌, ℕ, replicate}
use Rattle.std.proofs.Math.Option.{some}
use Rattle.lists.specs.Histories.{Place}
use Rattle.journal.specs.Entry.{Entry}
use Rattle.journal.specs.Held.{held}
use Rattle.journal.specs.Retention.{keep}
use Rattle.journal.specs.Sweep.{log_sweep_of}
use Rattle.journal_laws.specs.Calls.{Call, add, sweep, empty_log, number, after}
use Rattle.journal_laws.specs.Logged.{entry_of, logged}

-- twelve bytes have room for two small entries
abbrev pub room : List ℕ
room = replicate 12 170

-- a heard byte and a refusal on day 100, a heard byte on day 101, for which there is no room, and a sweep on day 130
abbrev pub until_swept : List Call
until_swept = add 7 100 (255 ∷ []) ∷ add 6 100 (4 ∷ []) ∷ add 7 101 (1 ∷ []) ∷ sweep 130 ∷ []

-- and a refusal on day 130
abbrev pub month : List Call
month = until_swept ++ add 6 130 (8 ∷ []) ∷ []

abbrev pub heard_entry : Entry
heard_entry = entry_of 7 100 (255 ∷ [])

pub record Month : Type 0 where
  -- the third call is refused with 17, and the caller keeps the count of twelve
  pub refused : number (after (empty_log room) (add 7 100 (255 ∷ []) ∷ add 6 100 (4 ∷ []) ∷ [])) (add 7 101 (1 ∷ [])) ≡ 17
  pub full : after (empty_log room) (add 7 100 (255 ∷ []) ∷ add 6 100 (4 ∷ []) ∷ add 7 101 (1 ∷ []) ∷ [])
      ≡ record { used = 12; buffer = 7 ∷ 0 ∷ 0 ∷ 0 ∷ 100 ∷ 255 ∷ 6 ∷ 0 ∷ 0 ∷ 0 ∷ 100 ∷ 4 ∷ [] }
  -- the sweep takes the refusal out, whose bytes still stand behind the six that are used
  pub freed : after (empty_log room) until_swept ≡ record { used = 6; buffer = 7 ∷ 0 ∷ 0 ∷ 0 ∷ 100 ∷ 255 ∷ 6 ∷ 0 ∷ 0 ∷ 0 ∷ 100 ∷ 4 ∷ [] }
  -- the freed end is used again
  pub again : after (empty_log room) month ≡ record { used = 12; buffer = 7 ∷ 0 ∷ 0 ∷ 0 ∷ 100 ∷ 255 ∷ 6 ∷ 0 ∷ 0 ∷ 0 ∷ 130 ∷ 8 ∷ [] }
  pub holds : logged (empty_log room) month ≡ heard_entry ∷ entry_of 6 130 (8 ∷ []) ∷ []
  -- by `NothingLost`, whose premises the first add meets
  pub stays : Place heard_entry (logged (empty_log room) month)
  -- what `NoneTooOld` speaks of is there
  pub young : Place heard_entry (logged (empty_log room) until_swept)

-- the premises of `AllSwept`, of `FutureStays` and of `SweptRemains`: a heard byte of day 100 alone, swept on the day before and on day 190
pub record Ninety : Type 0 where
  pub there : held 6 (7 ∷ 0 ∷ 0 ∷ 0 ∷ 100 ∷ 255 ∷ []) ≡ some (heard_entry ∷ [])
  pub stays : Place heard_entry (keep 99 (heard_entry ∷ []))
  pub gone : keep 190 (heard_entry ∷ []) ≡ []
  pub remains : (log_sweep_of 190 6 (7 ∷ 0 ∷ 0 ∷ 0 ∷ 100 ∷ 255 ∷ [])).buffer ≡ 7 ∷ 0 ∷ 0 ∷ 0 ∷ 100 ∷ 255 ∷ []

-- "A result of day 100 is there on day 106 and swept on 107", in a log that it fills
abbrev pub result : List ℕ
result = 2 ∷ replicate 2048 0

pub record Week : Type 0 where
  pub there : logged (empty_log (replicate 2054 170)) (add 5 100 result ∷ sweep 106 ∷ []) ≡ entry_of 5 100 result ∷ []
  pub used : (after (empty_log (replicate 2054 170)) (add 5 100 result ∷ sweep 106 ∷ [])).used ≡ 2054
  pub gone : logged (empty_log (replicate 2054 170)) (add 5 100 result ∷ sweep 107 ∷ []) ≡ []
  pub none : (after (empty_log (replicate 2054 170)) (add 5 100 result ∷ sweep 107 ∷ [])).used ≡ 0
