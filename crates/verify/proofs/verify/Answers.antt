-- A refusal answers its number alone, and else the words that Load and Read make of the records decide. Assumes nothing.
use Rattle.std.proofs.Common.{◌≡◌, refl, ℕ, zero, suc, Bool, List, Ok, Err}
use Rattle.std.proofs.lemmas.Result.{err_from_is_err_and}
use lib.IntN.{ℤ}
use Rattle.lists.specs.Lists.{all_below}
use Rattle.refusals.specs.declared.Refusal.{Refusal}
use Rattle.refusals.specs.Outcomes.{number_of}
use Rattle.refusals.proofs.Outcomes.{numbers_nonzero}
use Rattle.workspace.specs.Loading.{loaded_words}
use Rattle.workspace.specs.Reading.{read_words}
use Rattle.verify.specs.Sums.{is_near}
use Rattle.verify.specs.Verify.{verify_refusal_of, verdict_by, verdict_of, verdict}
use Rattle.verify.proofs.Families.{pairs_are}
use Rattle.verify.proofs.verify.Goals as goal

by_number : (n : ℕ) (within : Bool) → (n ≡ 0 → ⊥) → record { number = n; yes = 0 } ≡ verdict_by n within
unfolding verdict_by
by_number zero within f = absurd (f refl)
by_number (suc n) within f = refl

refused : (refusal : Refusal) (matrix result : List ℕ) → number_of refusal ≡ verify_refusal_of matrix result → verdict (Err refusal) ≡ verdict_of matrix result
unfolding verdict_of verdict
refused refusal matrix result e = rw (← e) (by_number (number_of refusal) _ (numbers_nonzero refusal))

pub returns-in_err-input : goal.returns-in_err-input
returns-in_err-input c =
    let p = err_from_is_err_and c.from_residual.result c.from_residual.ensures.1 in
    rw (p.1, p.2) (refused _ _ _ c.in_err-input.ensures.number)

-- what `all_near` found is what the records' words say
found : (matrix result : List ℕ) (b : Bool) (words loaded w l : List ℤ) → 0 ≡ verify_refusal_of matrix result → b ≡ all_below 512 (is_near words loaded)
    → words ≡ read_words result w → loaded ≡ loaded_words matrix l → verdict (Ok b) ≡ verdict_of matrix result
unfolding verdict_of verdict_by verdict
found matrix result b words loaded w l z e f g = rw (← z, e, f, g, pairs_are matrix result w l)

pub returns : goal.returns
returns c =
    let checked = c.in_ok-input.ensures in
    let f = c.fill.ensures in let g = c.fill-2.ensures in
    found c.args.matrix.now c.args.res.now c.all_near.result c.fill-2.new.workspace c.fill.new.workspace _ _ checked.number c.all_near.ensures (rw checked.same.1 at c.fill-2.ensures) (rw checked.same.0 at c.fill.ensures)
