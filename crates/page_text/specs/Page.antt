-- Document 02, U8: "prints R as 16 lines of 16 words in decimal", or the number of a refused record. Assumes nothing.
use Rattle.std.specs.Prelude.{ℕ, zero, suc, List, [], ◌∷◌, ◌++◌, ℤ, pos}
use Rattle.integers.specs.Matrix.{Matrix}
use Rattle.lists.specs.Lists.{joined}
use Rattle.result_record.specs.ResultRecord.{record_r, record_refusal_of}
use Rattle.page_text.specs.Decimal.{line_feed, field}

-- 16 words, and a line feed directly behind the last
unfoldable pub line_of : (ℕ → ℤ) → List ℕ
line_of words = joined 16 (λ j. field (words j)) ++ line_feed ∷ []

-- R, row by row
unfoldable pub page_of_r : Matrix → List ℕ
page_of_r r = joined 16 (λ i. line_of (r i))

-- "A refused record prints the number in 12 columns and a line feed"
unfoldable pub refusal_line : ℕ → List ℕ
refusal_line number = field (pos number) ++ line_feed ∷ []

-- by the number of tests 1, 2 and 8
abbrev pub page_by : ℕ → List ℕ → List ℕ
page_by zero rec = page_of_r (record_r rec)
page_by (suc n) rec = refusal_line (suc n)

unfoldable pub page_of : List ℕ → List ℕ
page_of rec = page_by (record_refusal_of rec) rec
