-- `fetch_copy` meets its contract: Fetch has what Whole left. Assumes nothing.
use mathlib.Core.Path.{◌≡◌}
use mathlib.Core.List.{List}
use Prim.Native.Nat.{ℕ}
use lib.IntN.{ℤ}
use Rattle.engine.specs.declared.whole.WholeReply.{WholeReply}
use Rattle.engine.specs.Whole.{whole_of}
use Rattle.engine.specs.Fetch.{fetch_of}
use Rattle.caller.specs.Caller.{copy_of}
use Rattle.caller.proofs.fetch_copy.Goals as goal

copy_is : (rec : List ℕ) (l words : List ℤ) (buffer out copy out' : List ℕ) (whole : WholeReply) (number : ℕ)
    → record { reply = whole; workspace = words; buffer = out } ≡ whole_of rec l buffer → record { number = number; buffer = out' } ≡ fetch_of (record { turn = 120; made = 0 }) words copy
    → record { reply = record { whole = whole; number = number }; workspace = words; buffer = out; copy = out' } ≡ copy_of rec l buffer copy
unfolding copy_of
copy_is rec l words buffer out copy out' whole number d e = rw (← d, ← e)

pub returns : goal.returns
returns c =
    copy_is _ _ _ _ _ _ _ _ _ c.hubqr_whole-whole.ensures c.hubqr_fetch-number.ensures
