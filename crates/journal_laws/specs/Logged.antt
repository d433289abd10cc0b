-- Document 02, U14: what a log holds after any list of adds and sweeps from used count 0, in a buffer of any bytes, whatever the caller writes behind the used
-- bytes meanwhile. The used bytes are exactly the entries that were accepted and that no later sweep found too old, in order; "the freed end is used again": an
-- entry of a known kind with a body of its length is accepted exactly if it fits behind those. Assumes nothing.
use Rattle.std.specs.Prelude.{◌≡◌, Bool, true, ◌&&◌, cond, List, [], ◌∷◌, ◌++◌, ℕ, zero, suc, ◌+◌, ◌<◌, length, take}
use Rattle.std.proofs.Math.Option.{some}
use Rattle.lists.specs.Histories.{Place}
use Rattle.refusals.specs.Refusals.{first}
use Rattle.journal.specs.Entry.{Entry, log_bytes}
use Rattle.journal.specs.Held.{held}
use Rattle.journal.specs.Retention.{retention, is_kept}
use Rattle.journal.specs.Add.{entry_test, room_test}
use Rattle.journal_laws.specs.Calls.{Call, add, sweep, fill, Log, empty_log, number, next, after}

abbrev pub entry_of : ℕ → ℕ → List ℕ → Entry
entry_of kind day body = record { kind = kind; day = day; body = body }

-- no sweep of these calls finds the entry too old; none of them is refused, as `Logged.sweeps` has it
unfoldable pub survives : Entry → List Call → Bool
survives e [] = true
survives e (add kind day body ∷ calls) = survives e calls
survives e (sweep day ∷ calls) = is_kept day e && survives e calls
survives e (fill f ∷ calls) = survives e calls

-- by a call's number, and with the calls that follow: the entry of an accepted add, where it survives
abbrev pub logged_by : ℕ → Call → List Call → List Entry
logged_by zero (add kind day body) later = cond (survives (entry_of kind day body) later) (entry_of kind day body ∷ []) []
logged_by zero (sweep day) later = []
logged_by zero (fill f) later = []
logged_by (suc n) c later = []

-- the entries that were accepted and that no later sweep found too old, in order
unfoldable pub logged : Log → List Call → List Entry
logged l [] = []
logged l (c ∷ calls) = logged_by (number l c) c calls ++ logged (next l c) calls

pub record Logged (buffer : List ℕ) (calls : List Call) : Type 0 where
  -- the used bytes are a whole run of just these entries, the format read back
  pub holds : held (after (empty_log buffer) calls).used (after (empty_log buffer) calls).buffer ≡ some (logged (empty_log buffer) calls)
  -- and they are these entries' bytes
  pub bytes : take (after (empty_log buffer) calls).used (after (empty_log buffer) calls).buffer ≡ log_bytes (logged (empty_log buffer) calls)
  pub used : (after (empty_log buffer) calls).used ≡ length (log_bytes (logged (empty_log buffer) calls))
  -- the buffer is as long as it was
  pub size : length (after (empty_log buffer) calls).buffer ≡ length buffer
  -- the numbers of one call more: no 16; 1, then 2; and where neither is given, 17 exactly if the entry does not fit behind these entries
  pub adds : (kind day : ℕ) (body : List ℕ) → number (after (empty_log buffer) calls) (add kind day body)
      ≡ first (entry_test kind body) (room_test (length buffer) (length (log_bytes (logged (empty_log buffer) calls))) (length body))
  pub sweeps : (day : ℕ) → number (after (empty_log buffer) calls) (sweep day) ≡ 0

abbrev pub AllLogged : Type 0
AllLogged = (buffer : List ℕ) (calls : List Call) → Logged buffer calls

-- nothing is lost that should stay: the entry of an accepted add that every later sweep's day is early enough for stands in the used bytes
abbrev pub NothingLost : Type 0
NothingLost = (buffer : List ℕ) (calls : List Call) (kind day : ℕ) (body : List ℕ) (p : Place (add kind day body) calls)
    → number (after (empty_log buffer) p.before) (add kind day body) ≡ 0
    → ((d : ℕ) → Place (sweep d) p.rest → d < day + retention kind)
    → Place (entry_of kind day body) (logged (empty_log buffer) calls)

-- no entry stays that should go: right after a sweep, none in the used bytes is too old
abbrev pub NoneTooOld : Type 0
NoneTooOld = (buffer : List ℕ) (calls : List Call) (d : ℕ) (e : Entry) → Place e (logged (empty_log buffer) (calls ++ sweep d ∷ [])) → d < e.day + retention e.kind
