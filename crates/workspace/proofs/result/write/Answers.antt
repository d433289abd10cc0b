-- Four bytes more are written, in the part of the buffer that is lent for them. Assumes nothing.
use Rattle.std.proofs.Common.{◌≡◌, ℕ, ◌+◌, ◌-◌, ◌*◌, ◌∙◌, ap, refl, rules, arith, w32, length-set}
use lib.IntN.{pos}
use lib.ListN.{get_or}
use mir.Val.{SFits}
use mir.Facts.{to_z-of_z}
use Rattle.lists.proofs.Filling.{fill-first, fill_over, fill_done}
use Rattle.matrix_record.proofs.Writing.{fill_part}
use Rattle.result_record.specs.ResultRecord.{result_byte}
use Rattle.words.specs.Words.{word_bytes}
use Rattle.workspace.specs.Workspace.{R, Q}
use Rattle.workspace.proofs.Places.{word_values}
use Rattle.workspace.proofs.result.write.Goals as goal

pub loop-m-init : goal.loop-m-init
unfolding result_byte
loop-m-init c =
    record {
      room = simp length-set (omega arith);
      done = fill-first 2049 (result_byte (R c.args.workspace.now) (Q c.args.workspace.now)) c.args.buffer.now 2 (omega arith) (omega arith) refl;
    }

pub loop-m-preserved : goal.loop-m-preserved
loop-m-preserved c =
    let l = c.loop-m in
    let workspace = c.args.workspace.now in
    let f : SFits w32 (get_or workspace c.place-at.result (pos 0)) = search rules in
    let word = to_z-of_z f ∙ ap (λ (n : ℕ). get_or workspace n (pos 0)) c.place-at.ensures in
    let put = c.copy_from_slice.ensures.after ∙ c.word_bytes.ensures ∙ ap word_bytes word in
    let four : 1 + 4 * l.m + 4 - (1 + 4 * l.m) ≡ 4 = omega arith in
    let next : 1 + 4 * l.m + 4 ≡ 1 + 4 * (l.m + 1) = omega arith in
    record {
      room = l.invariant.room;
      done = rw (put, four) (rw next at (fill_part _ l.invariant.done (omega arith) l.invariant.room (word_values workspace l.m c.loop-m-test.true)));
    }

pub returns : goal.returns
returns c = fill_done c.loop-m.invariant.done (omega arith) ∙ fill_over 2049 _ c.args.buffer.now 0 2 (omega arith)
