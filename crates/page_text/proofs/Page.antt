-- The page by the number of the record's tests, and how long a refusal's is. Assumes nothing.
use mathlib.Core.Path.{◌≡◌, refl, sym, ap, ◌∙◌}
use mathlib.Core.List.{List, [], ◌∷◌}
use Prim.Native.Nat.{ℕ, zero, suc, ◌+◌, ◌<◌}
use native.Mathlib.Omega.{arith}
use lib.IntN.{pos}
use lib.ListN.{length, length-append}
use Rattle.refusals.specs.declared.Refusal.{Refusal}
use Rattle.refusals.specs.Outcomes.{number_of}
use Rattle.refusals.proofs.Outcomes.{numbers_nonzero}
use Rattle.result_record.specs.ResultRecord.{record_r, record_refusal_of}
use Rattle.page_text.specs.Decimal.{line_feed, field}
use Rattle.page_text.specs.Page.{page_of_r, refusal_line, page_by, page_of}
use Rattle.page_text.proofs.Decimal.{field-length}

pub page_accepted : (rec : List ℕ) → record_refusal_of rec ≡ 0 → page_of rec ≡ page_of_r (record_r rec)
unfolding page_of
page_accepted rec e = ap (λ (n : ℕ). page_by n rec) e

pub page_refused : (rec : List ℕ) (n : ℕ) → record_refusal_of rec ≡ n → (n ≡ 0 → ⊥) → page_of rec ≡ refusal_line n
unfolding page_of
page_refused rec zero e f = absurd (f refl)
page_refused rec (suc n) e f = ap (λ (n : ℕ). page_by n rec) e

pub page_of_refusal : (rec : List ℕ) (refusal : Refusal) → number_of refusal ≡ record_refusal_of rec → page_of rec ≡ refusal_line (number_of refusal)
page_of_refusal rec refusal e = page_refused rec (number_of refusal) (sym e) (numbers_nonzero refusal)

pub refusal-length : (n : ℕ) → n < 256 → length (refusal_line n) ≡ 13
unfolding refusal_line
refusal-length n h =
    length-append (field (pos n)) (line_feed ∷ []) ∙ ap (λ (k : ℕ). k + 1) (field-length (pos n) (record { sfits = omega arith }))
