-- `fetch_again` meets its contract: Fetch has what Read left. Assumes nothing.
use mathlib.Core.Path.{◌≡◌}
use mathlib.Core.List.{List}
use Prim.Native.Nat.{ℕ}
use lib.IntN.{ℤ}
use Rattle.engine.specs.declared.read.ReadReply.{ReadReply}
use Rattle.engine.specs.Read.{read_of}
use Rattle.engine.specs.Fetch.{fetch_of}
use Rattle.caller.specs.Caller.{again_of}
use Rattle.caller.proofs.fetch_again.Goals as goal

again-is : (rec : List ℕ) (l words : List ℤ) (buffer out : List ℕ) (read : ReadReply) (number : ℕ) → record { reply = read; workspace = words } ≡ read_of rec l
    → record { number = number; buffer = out } ≡ fetch_of read.job words buffer
    → record { reply = record { read = read; number = number }; workspace = words; buffer = out } ≡ again_of rec l buffer
unfolding again_of
again-is rec l words buffer out read number d e = rw (← d, ← e)

pub returns : goal.returns
returns c =
    again-is _ _ _ _ _ _ _ c.hubqr_read-read.ensures c.hubqr_fetch-number.ensures
