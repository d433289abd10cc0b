-- `keep` meets its contract: the part written is the record of the sector.
use Rattle.std.proofs.Common.{◌+◌, ◌-◌, ◌*◌, arith}
use Rattle.std.proofs.lemmas.Slice.{put_mid-paste}
use Rattle.desk.proofs.Desk.keep.Goals as goal

pub returns : goal.returns
returns c = rw (c.index-start.ensures.same, c.index.ensures.same, put_mid-paste (c.args.sector * 257) (c.args.sector * 257 + 257 - c.args.sector * 257) c.args.self.now.records c.copy_from_slice.new.self c.args.bytes.now 257 c.copy_from_slice.ensures.after (omega arith) (omega arith))
