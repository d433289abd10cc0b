-- `serve_sector` meets its contract: each call has the desk, and the words, that the one before left. Assumes nothing.
use mathlib.Core.Path.{◌≡◌}
use mathlib.Core.List.{List}
use Prim.Native.Nat.{ℕ}
use lib.IntN.{ℤ}
use Rattle.desk.specs.declared.Desk.{Desk}
use Rattle.desk.specs.declared.DeskReply.{DeskReply}
use Rattle.desk.specs.declared.hand_in.DeskLoadReply.{DeskLoadReply}
use Rattle.desk.specs.declared.run.DeskRunReply.{DeskRunReply}
use Rattle.desk.specs.Desk.{new_desk}
use Rattle.desk.specs.Roles.{operator}
use Rattle.desk.specs.HandIn.{hand_in_of}
use Rattle.desk.specs.Run.{desk_run_of}
use Rattle.desk.specs.Fetch.{desk_fetch_of}
use Rattle.desk.specs.Rounds.{begin_of}
use Rattle.desk.specs.Shares.{set_shares_of}
use Rattle.caller.specs.Caller.{served_of}
use Rattle.caller.proofs.serve_sector.Goals as goal

served-is : (role : ℕ) (shares : List ℕ) (sector : ℕ) (rec following : List ℕ) (l one two end last : List ℤ) (buffer out : List ℕ) (new : Desk) (set begun : DeskReply) (first early : DeskLoadReply) (run : DeskRunReply) (fetch : DeskReply) → new ≡ new_desk
    → set ≡ set_shares_of operator new shares → begun ≡ begin_of operator set.desk → record { reply = first; area = one } ≡ hand_in_of operator begun.desk sector rec l
    → record { reply = early; area = two } ≡ hand_in_of operator first.desk sector following one → record { reply = run; area = end } ≡ desk_run_of operator early.desk sector 120 two
    → record { reply = fetch; area = last; buffer = out } ≡ desk_fetch_of role run.desk sector end buffer
    → record { reply = record { set = set; begun = begun; first = first; early = early; run = run; fetch = fetch }; area = last; buffer = out } ≡ served_of role shares sector rec following l buffer
unfolding served_of
served-is role shares sector rec following l one two end last buffer out new set begun first early run fetch n s b d g e f =
    rw (← n, ← s, ← b, ← d, ← g, ← e, ← f)

pub returns : goal.returns
returns c =
    served-is _ _ _ _ _ _ _ _ _ _ _ _ _ _ _ _ _ _ _ c.hubqr_desk_new-new.ensures c.hubqr_desk_set_shares-set.ensures c.hubqr_desk_begin-begun.ensures c.hubqr_desk_hand_in-first.ensures c.hubqr_desk_hand_in-early.ensures c.hubqr_desk_run-run.ensures c.hubqr_desk_fetch-fetch.ensures
