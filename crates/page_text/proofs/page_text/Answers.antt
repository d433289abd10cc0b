-- A page fills output, and a refusal's line has 13 characters, since what is behind them is left.
use Rattle.std.proofs.Common.{[], arith, sym, ap, ◌≡◌, ◌∙◌, length, drop, append-nil}
use Rattle.std.proofs.lemmas.Grind.{common_steps}
use lib.ListN.{drop_of_length-le, length-append, length-drop}
use Rattle.page_text.proofs.Page.{page_accepted, page_of_refusal}
use Rattle.refusals.specs.Outcomes.{number_of}
use Rattle.page_text.specs.Page.{refusal_line}
use Rattle.page_text.proofs.page_text.Goals as goal

pub returns-in-Ok-clause-bytes : goal.returns-in-Ok-clause-bytes
returns-in-Ok-clause-bytes c =
    let rest : drop 3088 c.args.output.now ≡ [] = drop_of_length-le c.args.output.now {i = 3088} (omega arith) in
    rw (rest, append-nil) (grind (arith, common_steps, page_accepted))

pub returns-in-Err-clause-size : goal.returns-in-Err-clause-size
returns-in-Err-clause-size c =
    let line = refusal_line (number_of c.in-Err.refusal) in
    let full : length c.put_refusal.new.output ≡ 3088 = omega arith in
    let size = sym (ap length c.put_refusal.ensures) ∙ full in
    rw (page_of_refusal _ c.in-Err.refusal c.in-Err.ensures.number) (omega (arith, size, length-append line (drop 13 c.args.output.now), length-drop 13 c.args.output.now))
