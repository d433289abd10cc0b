-- Two accepted records that have the same page and not the same Q, and two refused ones that have the same page. Assumes nothing.
use mathlib.Core.Path.{◌≡◌, refl, sym, ◌∙◌}
use mathlib.Core.List.{[], ◌∷◌}
use native.Mathlib.Omega.{arith}
use lib.ListN.{replicate}
use Rattle.lists.specs.Lists.{joined}
use Rattle.result_record.specs.ResultRecord.{record_word, record_r}
use Rattle.page_text.specs.Decimal.{digits, decimal, field}
use Rattle.page_text.specs.Page.{line_of, page_of_r, page_of}
use Rattle.page_text.proofs.Page.{page_accepted}
use Rattle.page_text_laws.specs.Distinct.{SameR}
use Rattle.page_text_laws.specs.Printed.{five_words}
use Rattle.page_text_laws.proofs.Distinct.{distinct}
use Rattle.page_text_laws.proofs.Possible.{one_record, other_record, bytes_possible, accepted_possible, refused_possible}

same : page_of_r (record_r one_record) ≡ page_of_r (record_r other_record)
unfolding five_words digits decimal field joined line_of page_of_r record_word record_r
same = refl

same_page : page_of one_record ≡ page_of other_record
same_page = page_accepted one_record accepted_possible.0 ∙ same ∙ sym (page_accepted other_record accepted_possible.1)

same_r : SameR one_record other_record
same_r =
    distinct.by_r one_record other_record bytes_possible.0 bytes_possible.1 accepted_possible.0 accepted_possible.1 same_page

pub same_possible : (page_of one_record ≡ page_of other_record) × SameR one_record other_record
same_possible = (same_page, same_r)

pub same_line_possible : page_of [] ≡ page_of (1 ∷ replicate 2048 0)
same_line_possible =
    let e = refused_possible.0 in
    distinct.number_alone_lem [] (1 ∷ replicate 2048 0) (λ z. omega (arith, z, e)) (e ∙ sym refused_possible.1)
