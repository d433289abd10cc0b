-- Pages tell their records apart: what is read back from the same page is the same. Assumes nothing.
use mathlib.Core.Path.{◌≡◌, refl, sym, ap, ◌∙◌}
use mathlib.Core.List.{List, [], ◌∷◌, ◌++◌}
use mathlib.Core.Option.{some-injective}
use Prim.Native.Nat.{ℕ, ◌<◌}
use native.Mathlib.Omega.{arith}
use lib.IntN.{ℤ, nat_abs}
use lib.ListN.{length, take}
use Rattle.lists.proofs.Joined.{joined_same}
use Rattle.words.specs.Words.{Bytes}
use Rattle.result_record.specs.ResultRecord.{record_r, record_refusal_of}
use Rattle.page_text.specs.Decimal.{line_feed, field}
use Rattle.page_text.specs.Page.{line_of, page_of_r, page_of}
use Rattle.page_text.proofs.Page.{page_accepted, page_refused}
use Rattle.page_text_laws.specs.Reading.{line_at, columns_at, number_in}
use Rattle.page_text_laws.specs.Distinct.{SameR, Distinct}
use Rattle.page_text_laws.proofs.Lines.{page_length, word_at, refused-length, refused-read}

line_same : (v w : ℕ → ℤ) → ((j : ℕ) → j < 16 → v j ≡ w j) → line_of v ≡ line_of w
unfolding line_of
line_same v w e =
    ap (λ (l : List ℕ). l ++ line_feed ∷ []) (joined_same 16 (λ j. field (v j)) (λ j. field (w j)) (λ j h. ap field (e j h)))

module _ (a b : List ℕ) where
  same_r : Bytes a → Bytes b → record_refusal_of a ≡ 0 → record_refusal_of b ≡ 0 → page_of a ≡ page_of b → SameR a b
  same_r s t p q e i j h k =
      some-injective _ _
      (sym (word_at a s p i j h k) ∙ ap (λ (page : List ℕ). number_in (columns_at j (line_at i page))) e ∙ word_at b t q i j h k)

  same_page : record_refusal_of a ≡ 0 → record_refusal_of b ≡ 0 → SameR a b → page_of a ≡ page_of b
  unfolding page_of_r
  same_page p q e =
      page_accepted a p
      ∙ joined_same 16 (λ i. line_of (record_r a i)) (λ i. line_of (record_r b i)) (λ i h. line_same (record_r a i) (record_r b i) (λ j k. e i j h k))
      ∙ sym (page_accepted b q)

  same_number : (record_refusal_of a ≡ 0 → ⊥) → (record_refusal_of b ≡ 0 → ⊥) → page_of a ≡ page_of b → record_refusal_of a ≡ record_refusal_of b
  same_number p q e =
      ap nat_abs (some-injective _ _ (sym (refused-read a p) ∙ ap (λ (page : List ℕ). number_in (take 12 page)) e ∙ refused-read b q))

  same_line : (record_refusal_of a ≡ 0 → ⊥) → record_refusal_of a ≡ record_refusal_of b → page_of a ≡ page_of b
  same_line p e = page_refused a (record_refusal_of a) refl p ∙ sym (page_refused b (record_refusal_of a) (sym e) p)

  other_length : Bytes a → record_refusal_of a ≡ 0 → (record_refusal_of b ≡ 0 → ⊥) → page_of a ≡ page_of b → ⊥
  other_length s p q e = omega (arith, page_length a s p, refused-length b q, ap length e)

pub distinct : Distinct
distinct =
    record {
      by_r = same_r;
      r_alone = same_page;
      by_number = same_number;
      number_alone_lem = same_line;
      apart = other_length;
    }
