-- Document 02, U8: words in decimal, right-aligned in columns, as the bytes of text. Assumes nothing.
use Rattle.std.specs.Prelude.{ℕ, zero, suc, ◌+◌, ◌-◌, ◌/◌, ◌%◌, cond, List, [], ◌∷◌, ◌++◌, ltb, ℤ, pos, negsuc, length, replicate}

-- ---- characters, by their bytes

abbrev pub blank : ℕ
blank = 32

abbrev pub minus : ℕ
minus = 45

abbrev pub zero_digit : ℕ
zero_digit = 48

abbrev pub line_feed : ℕ
line_feed = 10

-- ---- numbers

-- the last digit of n
abbrev pub last_digit : ℕ → ℕ
last_digit n = zero_digit + n % 10

-- the digits of n, k + 1 of them at most: those of its tenth, and the last; below 10 the last alone, so that 0 is the digit 0
unfoldable pub digits : ℕ → ℕ → List ℕ
digits zero n = last_digit n ∷ []
digits (suc k) n = cond (ltb n 10) (last_digit n ∷ []) (digits k (n / 10) ++ last_digit n ∷ [])

-- a number that 32 bits hold has 10 digits at most
abbrev pub decimalℕ : ℕ → List ℕ
decimalℕ n = digits 9 n

-- "minus sign directly before the digits": `negsuc n` is -(n + 1)
unfoldable pub decimal : ℤ → List ℕ
decimal (pos n) = decimalℕ n
decimal (negsuc n) = minus ∷ decimalℕ (suc n)

-- ---- columns

-- "right-aligned" in so many columns
abbrev pub right_aligned : ℕ → List ℕ → List ℕ
right_aligned columns text = replicate (columns - length text) blank ++ text

-- "each right-aligned in 12 columns"
unfoldable pub field : ℤ → List ℕ
field z = right_aligned 12 (decimal z)
