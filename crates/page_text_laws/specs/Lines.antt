-- Document 02, U8: "16 lines of 16 words", "no blank at the line's end", "Each line is 192 characters and a line feed", and the line of a refused record.
-- Assumes nothing.
use Rattle.std.specs.Prelude.{◌≡◌, true, List, ℕ, ◌*◌, ◌<◌, pos, length, get_or, take}
use Rattle.std.proofs.Math.Option.{some}
use Rattle.words.specs.Words.{Bytes}
use Rattle.result_record.specs.ResultRecord.{record_r, record_refusal_of}
use Rattle.page_text.specs.Decimal.{line_feed}
use Rattle.page_text.specs.Page.{page_of}
use Rattle.page_text_laws.specs.Reading.{line_at, columns_at, is_digit, is_printed, number_in}

-- 192 characters, blanks, minus signs and digits, of which the last is a digit, and a line feed
pub record Line (line : List ℕ) : Type 0 where
  pub long : length line ≡ 193
  pub characters : (k : ℕ) → k < 192 → is_printed (get_or line k 0) ≡ true
  pub ends : is_digit (get_or line 191 0) ≡ true
  pub feed : get_or line 192 0 ≡ line_feed

pub record Lines : Type 0 where
  -- an accepted record's page is 16 lines and nothing else
  pub sixteen : (rec : List ℕ) → Bytes rec → record_refusal_of rec ≡ 0 → length (page_of rec) ≡ 16 * 193
  pub each : (rec : List ℕ) → Bytes rec → record_refusal_of rec ≡ 0 → (i : ℕ) → i < 16 → Line (line_at i (page_of rec))
  -- read back, the columns of word (i, j) are R's word (i, j)
  pub read_back : (rec : List ℕ) → Bytes rec → record_refusal_of rec ≡ 0 → (i j : ℕ) → i < 16 → j < 16
      → number_in (columns_at j (line_at i (page_of rec))) ≡ some (record_r rec i j)
  -- a refused record's is one line of 12 columns, which read back to its number
  pub refused-long : (rec : List ℕ) → (record_refusal_of rec ≡ 0 → ⊥) → length (page_of rec) ≡ 13
  pub refused-feed : (rec : List ℕ) → (record_refusal_of rec ≡ 0 → ⊥) → get_or (page_of rec) 12 0 ≡ line_feed
  pub refused-back : (rec : List ℕ) → (record_refusal_of rec ≡ 0 → ⊥) → number_in (take 12 (page_of rec)) ≡ some (pos (record_refusal_of rec))
