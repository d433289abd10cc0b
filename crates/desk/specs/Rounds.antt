-- The call that begins a round: what it answers, on all inputs. Assumes nothing.
use Rattle.std.specs.Prelude.{ℕ, zero, suc}
use Rattle.desk.specs.declared.Desk.{Desk}
use Rattle.desk.specs.declared.DeskReply.{DeskReply}
use Rattle.desk.specs.Desk.{begun}
use Rattle.desk.specs.Roles.{may_operate_of, role_test}

-- by the number of test 15; a refusal begins no round
unfoldable pub begin_by : ℕ → Desk → DeskReply
begin_by zero desk = record { desk = begun desk; number = 0 }
begin_by (suc n) desk = record { desk = desk; number = suc n }

unfoldable pub begin_of : ℕ → Desk → DeskReply
begin_of role desk = begin_by (role_test (may_operate_of role)) desk
