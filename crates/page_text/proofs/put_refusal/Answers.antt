-- The number is put in its columns, and the line feed behind it.
use Rattle.std.proofs.Common.{arith, ◌++◌, ◌∷◌, [], ◌∙◌, ap, drop, length, List, ℕ, ℤ, sym}
use mir.Syntax.{w32}
use Rattle.integers.proofs.Magnitude.{read_back}
use Rattle.lists.proofs.Joined.{put_one}
use Rattle.page_text.specs.Decimal.{field}
use Rattle.page_text.specs.Page.{refusal_line}
use Rattle.page_text.proofs.Decimal.{field-length}
use Rattle.page_text.proofs.put_refusal.Goals as goal

pub returns : goal.returns
unfolding refusal_line
returns c =
    let put = c.put_word.ensures ∙ ap field (read_back w32 c.from-number.type_inv ∙ c.from-number.ensures) in
    let size =
    ap length put ∙ ap (λ (z : ℤ). length (field z)) (sym c.from-number.ensures) ∙ field-length c.from-number.result (record { sfits = c.from-number.type_inv }) in
    rw (← c.number.ensures) (put_one c.put_word.new.columns c.args.output.now 12 10 size (omega arith) ∙ ap (λ (x : List ℕ). (x ++ 10 ∷ []) ++ drop 13 c.args.output.now) put)
