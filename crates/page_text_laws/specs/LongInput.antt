-- Document 02, U8: "reads up to 2,050 bytes as a result record". What stands behind them changes nothing, so that the page of what was read is the page of
-- the whole input; and an input that is too long is refused, by its kind first. Assumes nothing.
use Rattle.std.specs.Prelude.{◌≡◌, List, ℕ, ◌≤◌, length, get_or, take}
use Rattle.page_text.specs.Page.{refusal_line, page_of}

pub record LongInput : Type 0 where
  pub cut : (input : List ℕ) → page_of (take 2050 input) ≡ page_of input
  pub too_long : (input : List ℕ) → 2050 ≤ length input → get_or input 0 0 ≡ 2 → page_of input ≡ refusal_line 2
  pub other_kind : (input : List ℕ) → (get_or input 0 0 ≡ 2 → ⊥) → page_of input ≡ refusal_line 1
