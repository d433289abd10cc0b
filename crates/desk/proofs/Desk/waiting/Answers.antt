-- `waiting` meets its contract.
use Rattle.std.proofs.Common.{◌/◌, length, arith}
use Rattle.desk.specs.Desk.{record_in}
use Rattle.desk.proofs.Chunks.{chunk_at}
use Rattle.desk.proofs.Desk.waiting.Goals as goal

pub returns : goal.returns
unfolding record_in
returns c = rw (c.as_chunks.ensures.front, c.index.ensures.same) (chunk_at 257 (length c.args.self.now.records / 257) c.args.sector c.args.self.now.records _ (omega arith))
