-- The kinds of entries as the code has them, and their numbers. Assumes nothing.
use Rattle.std.specs.Prelude.{ℕ, ◌≡◌, Result, MatchResult}
use Rattle.refusals.specs.declared.Refusal.{Refusal}
use Rattle.refusals.specs.declared.Refusal.TheVariants.{WrongTag}
use Rattle.journal.specs.declared.kind.Kind.{Kind}
use Rattle.journal.specs.declared.kind.Kind.TheVariants.{ResultRecord, RefusalNumber, HeardByte}
use Rattle.journal.specs.Entry.{result_kind, refusal_kind, heard_kind, body_length_of}

abbrev pub kind_number : Kind → ℕ
kind_number ResultRecord = result_kind
kind_number RefusalNumber = refusal_kind
kind_number HeardByte = heard_kind

-- the kind that has this number, or the refusal of one that no kind has
abbrev pub Decodes : ℕ → Result Kind Refusal → Type 0
Decodes number r = MatchResult r (λ kind. number ≡ kind_number kind) (λ refusal. (refusal ≡ WrongTag) × (body_length_of number ≡ 0))
