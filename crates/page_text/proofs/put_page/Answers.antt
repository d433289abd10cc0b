-- One more line is put, in the part of the page that is lent for it.
use Rattle.std.proofs.Common.{arith, sym, ap, ◌≡◌, ◌+◌, ◌-◌, ◌*◌, ◌≤◌, ◌∙◌, length}
use borrow.Rule.Slice.PartMut.{mid_len}
use Rattle.lists.proofs.Joined.{join_none, join_more}
use Rattle.page_text.proofs.put_page.Goals as goal

pub loop-i-init : goal.loop-i-init
loop-i-init c = join_none _ _ _

pub loop-i-preserved : goal.loop-i-preserved
loop-i-preserved c =
    let same : 193 * c.loop-i.i + 193 - 193 * c.loop-i.i ≡ 193 = omega arith in
    let room : 193 * c.loop-i.i + 193 ≤ length c.loop-i.page = omega arith in
    let long : length c.put_line.new.line ≡ 193 = c.put_line.auto.line ∙ mid_len _ _ _ room ∙ same in
    let size = ap length (sym c.put_line.ensures) ∙ long in
    join_more _ _ c.loop-i.invariant same c.put_line.ensures size (omega arith)
