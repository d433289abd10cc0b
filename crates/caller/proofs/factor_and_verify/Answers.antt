-- `factor_and_verify` meets its contract: the verdict is on what Whole left in the buffer. Assumes nothing.
use mathlib.Core.Path.{◌≡◌}
use mathlib.Core.List.{List}
use Prim.Native.Nat.{ℕ}
use lib.IntN.{ℤ}
use Rattle.engine.specs.declared.whole.WholeReply.{WholeReply}
use Rattle.engine.specs.Whole.{whole_of}
use Rattle.verify.specs.declared.Verdict.{Verdict}
use Rattle.verify.specs.Verify.{verdict_of}
use Rattle.caller.specs.Caller.{verified_of}
use Rattle.caller.proofs.factor_and_verify.Goals as goal

verified-is : (rec : List ℕ) (l words : List ℤ) (buffer out : List ℕ) (whole : WholeReply) (verdict : Verdict)
    → record { reply = whole; workspace = words; buffer = out } ≡ whole_of rec l buffer → verdict ≡ verdict_of rec out
    → record { reply = record { whole = whole; verdict = verdict }; workspace = words; buffer = out } ≡ verified_of rec l buffer
unfolding verified_of
verified-is rec l words buffer out whole verdict d e = rw (← d, ← e)

pub returns : goal.returns
returns c =
    verified-is _ _ _ _ _ _ _ c.hubqr_whole-done.ensures c.hubqr_verify-verdict.ensures
