-- The tag, and then the two bytes of one part after another, in the part of the buffer that is lent for them.
use Rattle.std.proofs.Common.{◌≡◌, refl, ap, ◌∙◌, ◌+◌, ◌-◌, ◌*◌, arith, ℤ, w64}
use mir.Syntax.{w16}
use Rattle.integers.proofs.Magnitude.{read_back}
use Rattle.lists.proofs.Filling.{fill-first, fill_over, fill_done}
use Rattle.lists.proofs.Tabulate.{filled_all}
use Rattle.words.specs.Words.{int16_bytes_of}
use Rattle.matrix_record.proofs.Writing.{fill_part}
use Rattle.matrix_record.specs.MatrixRecord.{matrix_byte, matrix_record_of}
use Rattle.covariance.specs.Sums.{sum_at}
use Rattle.covariance.specs.WriteMatrix.{normalized, element_part}
use Rattle.covariance.proofs.Accepted.{near}
use Rattle.covariance.proofs.Elements.{part_values}
use Rattle.covariance.proofs.Machine.{read}
use Rattle.covariance.proofs.Sums.write_record.Goals as goal

pub loop-n-init : goal.loop-n-init
unfolding matrix_byte
loop-n-init c = fill-first 257 (matrix_byte (element_part c.args.self.now.count c.args.self.now.words)) c.args.buffer.now 1 (omega arith) (omega arith) refl

pub normalize-part-requires : goal.normalize-part-requires
normalize-part-requires c =
    let z : ℤ = sum_at c.args.self.now.words c.loop-n.n in
    let e : read z ≡ z = read_back w64 (omega arith) in
    (c.requires.0, rw e (near c.args.self.now.count c.args.self.now.words c.requires.1 _ c.loop-n-test.true))

pub loop-n-preserved : goal.loop-n-preserved
loop-n-preserved c =
    let count = c.args.self.now.count in
    let words = c.args.self.now.words in
    let n = c.loop-n.n in
    let z : ℤ = sum_at words n in
    let s : read z ≡ z = read_back w64 (omega arith) in
    let part = c.normalize-part in
    let e = read_back w16 part.type_inv ∙ part.ensures ∙ ap (normalized count) s in
    let put = c.copy_from_slice.ensures.after ∙ c.int16_bytes.ensures ∙ ap int16_bytes_of e in
    let two : 1 + 2 * n + 2 - (1 + 2 * n) ≡ 2 = omega arith in
    let next : 1 + 2 * n + 2 ≡ 1 + 2 * (n + 1) = omega arith in
    rw (put, two) (rw next at (fill_part _ c.loop-n.invariant (omega arith) (omega arith) (part_values count words n)))

pub returns : goal.returns
unfolding matrix_record_of
returns c =
    fill_done c.loop-n.invariant (omega arith) ∙ fill_over 257 _ c.args.buffer.now 0 1 (omega arith) ∙ filled_all 257 _ c.args.buffer.now (omega arith)
