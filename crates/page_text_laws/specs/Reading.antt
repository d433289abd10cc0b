-- How a page is read: its lines, the columns of a word in a line, and the number in columns, none where they hold anything else. Assumes nothing.
use Rattle.std.specs.Prelude.{ℕ, ◌+◌, ◌-◌, ◌*◌, Bool, cond, ◌&&◌, ◌||◌, List, [], ◌∷◌, ltb, eqb, ℤ, pos, neg_ℤ, take, drop}
use Rattle.std.proofs.Math.Option.{Option, none, some, map}
use Rattle.page_text.specs.Decimal.{blank, minus, zero_digit}

-- line i of a page, its line feed with it
abbrev pub line_at : ℕ → List ℕ → List ℕ
line_at i page = take 193 (drop (193 * i) page)

-- the columns of word j of a line
abbrev pub columns_at : ℕ → List ℕ → List ℕ
columns_at j line = take 12 (drop (12 * j) line)

-- the characters `0` to `9`, and all that a word's columns may hold
abbrev pub is_digit : ℕ → Bool
is_digit c = ltb 47 c && ltb c 58

abbrev pub is_printed : ℕ → Bool
is_printed c = eqb c blank || (eqb c minus || is_digit c)

-- the number that has the digits of n and then these
unfoldable pub number_from : ℕ → List ℕ → Option ℕ
number_from n [] = some n
number_from n (c ∷ cs) = cond (is_digit c) (number_from (n * 10 + (c - zero_digit)) cs) none

-- the number in digits, one at least
unfoldable pub digits_in : List ℕ → Option ℕ
digits_in [] = none
digits_in (c ∷ cs) = number_from 0 (c ∷ cs)

-- the number in columns: behind blanks its digits, or a minus sign and directly behind it its digits, and nothing else
unfoldable pub number_in : List ℕ → Option ℤ
number_in [] = none
number_in (c ∷ cs) =
    cond (eqb c blank) (number_in cs) (cond (eqb c minus) (map (λ (n : ℕ). neg_ℤ (pos n)) (digits_in cs)) (map pos (digits_in (c ∷ cs))))
