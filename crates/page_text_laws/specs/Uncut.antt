-- Document 02, U8: "each right-aligned in 12 columns", and "No 32-bit word may be cut", for every one of them. Assumes nothing.
use Rattle.std.specs.Prelude.{◌≡◌, true, ℕ, ◌≤◌, ◌<◌, ℤ, length, get_or}
use Rattle.std.proofs.Math.Option.{some}
use Rattle.std.specs.Int.{w32}
use Rattle.std.proofs.Common.{SFits}
use Rattle.page_text.specs.Decimal.{blank, decimal, field}
use Rattle.page_text_laws.specs.Reading.{is_digit, is_printed, number_in}

pub record Uncut : Type 0 where
  pub columns : (z : ℤ) → SFits w32 z → length (field z) ≡ 12
  -- 11 characters at most, so that one blank at least stands before each word
  pub eleven : (z : ℤ) → SFits w32 z → length (decimal z) ≤ 11
  pub blank-first : (z : ℤ) → SFits w32 z → get_or (field z) 0 0 ≡ blank
  -- blanks, minus signs and digits, and a digit last
  pub characters : (z : ℤ) → SFits w32 z → (k : ℕ) → k < 12 → is_printed (get_or (field z) k 0) ≡ true
  pub ends : (z : ℤ) → SFits w32 z → is_digit (get_or (field z) 11 0) ≡ true
  -- read back, the columns are the word
  pub read_back : (z : ℤ) → SFits w32 z → number_in (field z) ≡ some z
