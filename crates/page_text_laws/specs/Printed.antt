-- Document 02, U8, in characters: one table, and one statement over all its rows, computed from the definitions that the contract cites. The rows are
-- numerals, worked out from document 02's words, and use nothing of those definitions: 32 is a blank, 45 the minus sign, 48 to 57 the digits, 10 a line
-- feed. Assumes nothing.
use Rattle.std.specs.Prelude.{◌≡◌, refl, List, [], ◌∷◌, ◌++◌, ℕ, ℤ, pos, negsuc, replicate}
use Rattle.lists.specs.Lists.{all_below, joined}
use Rattle.refusals.specs.Refusals.{header_test}
use Rattle.result_record.specs.ResultRecord.{record_word, record_r, is_finished_at, is_finished, record_refusal_of}
use Rattle.page_text.specs.Decimal.{digits, decimal, field}
use Rattle.page_text.specs.Page.{line_of, page_of_r, refusal_line, page_of}
use Rattle.page_text_laws.specs.Reading.{line_at, columns_at}

pub data Print : Type 0 where
  -- a word's columns: so many blanks, and then these characters
  prints : ℤ → ℕ → List ℕ → Print
  -- a record's page, at line i and word j: so many blanks, and then these characters
  shows : List ℕ → ℕ → ℕ → ℕ → List ℕ → Print
  -- a record's page: so many blanks, and then these characters
  refuses : List ℕ → ℕ → List ℕ → Print

abbrev pub Prints : Print → Type 0
Prints (prints z n cs) = field z ≡ replicate n 32 ++ cs
Prints (shows rec i j n cs) = columns_at j (line_at i (page_of rec)) ≡ replicate n 32 ++ cs
Prints (refuses rec n cs) = page_of rec ≡ replicate n 32 ++ cs

abbrev pub AllPrinted : List Print → Type 0
AllPrinted [] = Unit {0}
AllPrinted (p ∷ ps) = Prints p × AllPrinted ps

-- words (0, 0) to (0, 3) of R are 5, the least, the greatest and -1, word (15, 15) is -10, and all others are 0; Q has the bytes q
unfoldable pub five_words : List ℕ → List ℕ
five_words q =
    2 ∷ 0 ∷ 0 ∷ 0 ∷ 5 ∷ 128 ∷ 0 ∷ 0 ∷ 0 ∷ 127 ∷ 255 ∷ 255 ∷ 255 ∷ 255 ∷ 255 ∷ 255 ∷ 255 ∷ replicate 1004 0
    ++ 255 ∷ 255 ∷ 255 ∷ 246 ∷ q

unfoldable pub printings : List Print
printings =
    -- 0, and a digit more or less
    prints (pos 0) 11 (48 ∷ [])
    ∷ prints (pos 9) 11 (57 ∷ [])
    ∷ prints (pos 10) 10 (49 ∷ 48 ∷ [])
    ∷ prints (negsuc 0) 10 (45 ∷ 49 ∷ [])
    ∷ prints (negsuc 8) 10 (45 ∷ 57 ∷ [])
    ∷ prints (negsuc 9) 9 (45 ∷ 49 ∷ 48 ∷ [])
    ∷ prints (pos 999999999) 3 (57 ∷ 57 ∷ 57 ∷ 57 ∷ 57 ∷ 57 ∷ 57 ∷ 57 ∷ 57 ∷ [])
    ∷ prints (negsuc 999999999) 1 (45 ∷ 49 ∷ 48 ∷ 48 ∷ 48 ∷ 48 ∷ 48 ∷ 48 ∷ 48 ∷ 48 ∷ 48 ∷ [])
    -- the greatest word and the least
    ∷ prints (pos 2147483647) 2 (50 ∷ 49 ∷ 52 ∷ 55 ∷ 52 ∷ 56 ∷ 51 ∷ 54 ∷ 52 ∷ 55 ∷ [])
    ∷ prints (negsuc 2147483647) 1 (45 ∷ 50 ∷ 49 ∷ 52 ∷ 55 ∷ 52 ∷ 56 ∷ 51 ∷ 54 ∷ 52 ∷ 56 ∷ [])
    -- R row by row: word (0, 1) stands in line 0, and word (1, 0) in line 1
    ∷ shows (five_words (replicate 1024 1)) 0 1 1 (45 ∷ 50 ∷ 49 ∷ 52 ∷ 55 ∷ 52 ∷ 56 ∷ 51 ∷ 54 ∷ 52 ∷ 56 ∷ [])
    ∷ shows (five_words (replicate 1024 1)) 1 0 11 (48 ∷ [])
    ∷ shows (five_words (replicate 1024 1)) 15 15 9 (45 ∷ 49 ∷ 48 ∷ [])
    -- 1: no byte, and another kind, too short besides
    ∷ refuses [] 11 (49 ∷ 10 ∷ [])
    ∷ refuses (1 ∷ replicate 256 0) 11 (49 ∷ 10 ∷ [])
    -- 2: a byte less and a byte more, with word (1, 0) not 0 besides
    ∷ refuses (2 ∷ replicate 67 0 ++ 1 ∷ replicate 1979 0) 11 (50 ∷ 10 ∷ [])
    ∷ refuses (2 ∷ replicate 67 0 ++ 1 ∷ replicate 1981 0) 11 (50 ∷ 10 ∷ [])
    -- 8: word (1, 0) is 1, and word (0, 0) is the least
    ∷ refuses (2 ∷ replicate 67 0 ++ 1 ∷ replicate 1980 0) 11 (56 ∷ 10 ∷ [])
    ∷ refuses (2 ∷ 128 ∷ replicate 2047 0) 11 (56 ∷ 10 ∷ [])
    ∷ []

pub printed : AllPrinted printings
unfolding printings five_words digits decimal field joined line_of page_of_r refusal_line page_of header_test record_word record_r is_finished_at is_finished all_below record_refusal_of
printed =
    (refl, (refl, (refl, (refl, (refl, (refl, (refl, (refl, (refl, (refl, (refl, (refl, (refl, (refl, (refl, (refl, (refl, (refl, (refl, tt)))))))))))))))))))
