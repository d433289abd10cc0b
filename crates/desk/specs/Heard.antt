-- The call for a sector's heard byte: what it answers, on all inputs. Assumes nothing.
use Rattle.std.specs.Prelude.{ℕ, zero, suc}
use Rattle.desk.specs.declared.Desk.{Desk}
use Rattle.desk.specs.declared.heard.DeskHeardReply.{DeskHeardReply}
use Rattle.desk.specs.Desk.{heard_at_of}
use Rattle.desk.specs.Roles.{may_hear_of, admission_test}

-- by the number of tests 15 and 12; the desk is as it was
unfoldable pub desk_heard_by : ℕ → Desk → ℕ → DeskHeardReply
desk_heard_by zero desk sector = record { desk = desk; number = 0; heard = heard_at_of desk sector }
desk_heard_by (suc n) desk sector = record { desk = desk; number = suc n; heard = 0 }

unfoldable pub desk_heard_of : ℕ → Desk → ℕ → DeskHeardReply
desk_heard_of role desk sector = desk_heard_by (admission_test (may_hear_of role) sector) desk sector
