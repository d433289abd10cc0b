-- `factor_in_halves` meets its contract: each call has what the one before left. Assumes nothing.
use mathlib.Core.Path.{◌≡◌}
use mathlib.Core.List.{List}
use Prim.Native.Nat.{ℕ}
use lib.IntN.{ℤ}
use Rattle.engine.specs.declared.load.LoadReply.{LoadReply}
use Rattle.engine.specs.declared.run.RunReply.{RunReply}
use Rattle.engine.specs.Load.{load_of}
use Rattle.engine.specs.Run.{run_of}
use Rattle.engine.specs.Fetch.{fetch_of}
use Rattle.caller.specs.Caller.{halves_of}
use Rattle.caller.proofs.factor_in_halves.Goals as goal

halves_are : (rec : List ℕ) (l words half end : List ℤ) (buffer out : List ℕ) (load : LoadReply) (first second : RunReply) (number : ℕ)
    → record { reply = load; workspace = words } ≡ load_of rec l → record { reply = first; workspace = half } ≡ run_of load.job 60 words
    → record { reply = second; workspace = end } ≡ run_of first.job 60 half → record { number = number; buffer = out } ≡ fetch_of second.job end buffer
    → record { reply = record { load = load; first = first; second = second; number = number }; workspace = end; buffer = out } ≡ halves_of rec l buffer
unfolding halves_of
halves_are rec l words half end buffer out load first second number d e g h = rw (← d, ← e, ← g, ← h)

pub returns : goal.returns
returns c =
    halves_are _ _ _ _ _ _ _ _ _ _ _ c.hubqr_load-load.ensures c.hubqr_run-first.ensures c.hubqr_run-second.ensures c.hubqr_fetch-number.ensures
