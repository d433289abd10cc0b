-- `begin_and_run` meets its contract: each call has the desk that the one before answered. Assumes nothing.
use mathlib.Core.Path.{◌≡◌}
use mathlib.Core.List.{List}
use Prim.Native.Nat.{ℕ}
use lib.IntN.{ℤ}
use Rattle.desk.specs.declared.Desk.{Desk}
use Rattle.desk.specs.declared.DeskReply.{DeskReply}
use Rattle.desk.specs.declared.run.DeskRunReply.{DeskRunReply}
use Rattle.desk.specs.declared.heard.DeskHeardReply.{DeskHeardReply}
use Rattle.desk.specs.Roles.{viewer}
use Rattle.desk.specs.Run.{desk_run_of}
use Rattle.desk.specs.Heard.{desk_heard_of}
use Rattle.desk.specs.Rounds.{begin_of}
use Rattle.caller.specs.Caller.{round_of}
use Rattle.caller.proofs.begin_and_run.Goals as goal

round_is : (role : ℕ) (desk : Desk) (sector request : ℕ) (l end : List ℤ) (begun : DeskReply) (run : DeskRunReply) (heard : DeskHeardReply) → begun ≡ begin_of role desk
    → record { reply = run; area = end } ≡ desk_run_of role begun.desk sector request l → heard ≡ desk_heard_of viewer run.desk sector
    → record { reply = record { begun = begun; run = run; heard = heard }; area = end } ≡ round_of role desk sector request l
unfolding round_of
round_is role desk sector request l end begun run heard b e h = rw (← b, ← e, ← h)

pub returns : goal.returns
returns c =
    round_is _ _ _ _ _ _ _ _ _ c.hubqr_desk_begin-begun.ensures c.hubqr_desk_run-run.ensures c.hubqr_desk_heard-heard.ensures
