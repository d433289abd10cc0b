-- Which records have the same page: accepted ones that have the same R, and refused ones of the same number, and no others. Assumes nothing.
use Rattle.std.specs.Prelude.{◌≡◌, List, ℕ, ◌<◌}
use Rattle.words.specs.Words.{Bytes}
use Rattle.result_record.specs.ResultRecord.{record_r, record_refusal_of}
use Rattle.page_text.specs.Page.{page_of}

-- the same 256 words of R
abbrev pub SameR : List ℕ → List ℕ → Type 0
SameR a b = (i j : ℕ) → i < 16 → j < 16 → record_r a i j ≡ record_r b i j

pub record Distinct : Type 0 where
  pub by_r : (a b : List ℕ) → Bytes a → Bytes b → record_refusal_of a ≡ 0 → record_refusal_of b ≡ 0 → page_of a ≡ page_of b → SameR a b
  -- and nothing of Q shows
  pub r_alone : (a b : List ℕ) → record_refusal_of a ≡ 0 → record_refusal_of b ≡ 0 → SameR a b → page_of a ≡ page_of b
  pub by_number : (a b : List ℕ) → (record_refusal_of a ≡ 0 → ⊥) → (record_refusal_of b ≡ 0 → ⊥) → page_of a ≡ page_of b → record_refusal_of a ≡ record_refusal_of b
  -- and nothing else of a refused record shows
  pub number_alone_lem : (a b : List ℕ) → (record_refusal_of a ≡ 0 → ⊥) → record_refusal_of a ≡ record_refusal_of b → page_of a ≡ page_of b
  pub apart : (a b : List ℕ) → Bytes a → record_refusal_of a ≡ 0 → (record_refusal_of b ≡ 0 → ⊥) → page_of a ≡ page_of b → ⊥
