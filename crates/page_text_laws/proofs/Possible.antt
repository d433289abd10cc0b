-- The premises of the theorems can be met: by the least word and the greatest, by two accepted records whose bytes are all below 256 and which have the same
-- page and not the same Q, by two refused ones that have the same page, and by inputs that are too long, of either kind. Assumes nothing.
use mathlib.Core.Path.{◌≡◌, refl}
use mathlib.Core.List.{List, [], ◌∷◌, ◌++◌}
use Prim.Native.Nat.{ℕ, ◌≤◌}
use native.Mathlib.Omega.{arith}
use lib.Dec.{lit<}
use lib.IntN.{pos, negsuc}
use lib.ListN.{length, get_or, replicate}
use mir.Syntax.{w32}
use mir.Val.{SFits}
use Rattle.lists.specs.Lists.{all_below}
use Rattle.words.specs.Words.{Bytes}
use Rattle.words.proofs.Bytes.{are_bytes, bytes_of}
use Rattle.refusals.specs.Refusals.{header_test}
use Rattle.result_record.specs.ResultRecord.{record_word, record_r, record_q, is_finished_at, is_finished, record_refusal_of}
use Rattle.page_text_laws.specs.Printed.{five_words}

pub words_possible : SFits w32 (negsuc 2147483647) × SFits w32 (pos 2147483647)
words_possible = (record { sfits = lit< tt }, record { sfits = lit< tt })

-- ---- accepted records

abbrev pub one_record : List ℕ
one_record = five_words (replicate 1024 0)

abbrev pub other_record : List ℕ
other_record = five_words (replicate 1023 0 ++ 1 ∷ [])

pub bytes_possible : Bytes one_record × Bytes other_record
unfolding five_words are_bytes
bytes_possible = (bytes_of one_record refl, bytes_of other_record refl)

pub accepted_possible : (record_refusal_of one_record ≡ 0) × (record_refusal_of other_record ≡ 0)
unfolding five_words header_test record_word record_r is_finished_at is_finished all_below record_refusal_of
accepted_possible = (refl, refl)

pub other_q_possible : (record_q one_record 15 15 ≡ pos 0) × (record_q other_record 15 15 ≡ pos 1)
unfolding five_words record_word record_q
other_q_possible = (refl, refl)

-- ---- refused ones

pub refused_possible : (record_refusal_of [] ≡ 1) × (record_refusal_of (1 ∷ replicate 2048 0) ≡ 1)
unfolding header_test record_refusal_of
refused_possible = (refl, refl)

pub other_kind_possible : let input : List ℕ = 1 ∷ replicate 2049 0 in (2050 ≤ length input) × (get_or input 0 0 ≡ 2 → ⊥)
other_kind_possible = (lit< tt, λ e. omega (arith, e))

pub long_possible : let input : List ℕ = 2 ∷ replicate 2049 0 in (2050 ≤ length input) × (get_or input 0 0 ≡ 2)
long_possible = (lit< tt, refl)
