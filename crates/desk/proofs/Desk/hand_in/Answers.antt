-- `hand_in` meets its contract: a record that passes the tests of Load has an area with room.
use Rattle.std.proofs.Common.{sym}
use Rattle.engine.proofs.Accepted.{load-accepted}
use Rattle.desk.proofs.Desk.hand_in.Goals as goal

pub take_in-heard-requires : goal.take_in-heard-requires
take_in-heard-requires c = (load-accepted _ _ (sym c.in_ok-record.ensures.number)).room
