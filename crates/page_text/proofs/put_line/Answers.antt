-- One more word is put; its columns are 12, whatever its digits.
use Rattle.std.proofs.Common.{arith, ℤ, sym, ap, ◌≡◌, ◌+◌, ◌-◌, ◌*◌, ◌∙◌, length}
use mir.Syntax.{w32}
use Rattle.integers.proofs.Magnitude.{read_back}
use Rattle.lists.proofs.Joined.{join_none, join_more}
use Rattle.page_text.specs.Decimal.{field}
use Rattle.page_text.proofs.Decimal.{field-length}
use Rattle.page_text.proofs.put_line.Goals as goal

pub loop-j-init : goal.loop-j-init
loop-j-init c = join_none _ _ _

pub loop-j-preserved : goal.loop-j-preserved
loop-j-preserved c =
    let same : 12 * c.loop-j.j + 12 - 12 * c.loop-j.j ≡ 12 = omega arith in
    let put = c.put_word.ensures ∙ ap field (read_back w32 c.r.type_inv ∙ c.r.ensures) in
    let size = ap (λ (z : ℤ). length (field z)) (sym c.r.ensures) ∙ field-length c.r.result (record { sfits = c.r.type_inv }) in
    join_more _ _ c.loop-j.invariant same put size (omega arith)
