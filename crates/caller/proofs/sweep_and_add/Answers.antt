-- `sweep_and_add` meets its contract: each call has the used count and the buffer that the one before left. Assumes nothing.
use mathlib.Core.Path.{◌≡◌}
use mathlib.Core.List.{List}
use Prim.Native.Nat.{ℕ}
use Rattle.journal.specs.declared.LogReply.{LogReply}
use Rattle.journal.specs.declared.next.LogEntry.{LogEntry}
use Rattle.journal.specs.Outcome.{used_after_of}
use Rattle.journal.specs.Add.{log_add_of}
use Rattle.journal.specs.Sweep.{log_sweep_of}
use Rattle.journal.specs.Next.{log_next_of}
use Rattle.caller.specs.Caller.{daily_of}
use Rattle.caller.proofs.sweep_and_add.Goals as goal

daily-is : (kind day : ℕ) (body : List ℕ) (used : ℕ) (buffer left out : List ℕ) (swept added : LogReply) (end last : ℕ) (first : LogEntry)
    → record { reply = swept; buffer = left } ≡ log_sweep_of day used buffer → end ≡ used_after_of swept.number swept.used used
    → record { reply = added; buffer = out } ≡ log_add_of kind day body end left → last ≡ used_after_of added.number added.used end → first ≡ log_next_of 0 last out
    → record { reply = record { swept = swept; added = added; first = first }; buffer = out } ≡ daily_of kind day body used buffer
unfolding daily_of
daily-is kind day body used buffer left out swept added end last first s e a l f = rw (← s, ← e, ← a, ← l, ← f)

pub returns : goal.returns
returns c =
    daily-is _ _ _ _ _ _ _ _ _ _ _ _ c.hubqr_log_sweep-swept.ensures c.used_after-end.ensures c.hubqr_log_add-added.ensures c.used_after-last.ensures c.hubqr_log_next-first.ensures
