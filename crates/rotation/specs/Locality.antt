-- Document 01, "One turn": a turn "reads and writes only the columns from the leading one on", of its two rows. What it makes of the part that begins at
-- its upper row, what it counts and whether it is made (document 02, U5) is fixed by those words alone, and every other word stays. Assumes nothing.
use Rattle.std.specs.Prelude.{◌≡◌, ◌≢◌, List, ℕ, ◌+◌, ◌*◌, ◌≤◌, ◌<◌, ℤ, pos, length, get_or}
use Rattle.rotation.specs.Column.{row_words}
use Rattle.rotation.specs.Turn.{turned, turn_saturations, turn_made}

-- ---- reads

-- the word at row i, column j of a part
abbrev pub part_word : List ℤ → ℕ → ℕ → ℤ
part_word l i j = get_or l (i * row_words + j) (pos 0)

-- two parts have the same words in rows 0 and `gap`, in the columns from column c on
abbrev pub Agree : ℕ → ℕ → List ℤ → List ℤ → Type 0
Agree c gap l m = (j : ℕ) → c ≤ j → j < row_words → (part_word l 0 j ≡ part_word m 0 j) × (part_word l gap j ≡ part_word m gap j)

-- then the turn with leading column c makes the same words of them there, where both parts have the lower row
abbrev pub WordsRead : Type 0
WordsRead =
    (c gap : ℕ) (l m : List ℤ) → gap * row_words + row_words ≤ length l → gap * row_words + row_words ≤ length m
    → Agree c gap l m → Agree c gap (turned c gap l) (turned c gap m)

-- and counts the same
abbrev pub CountsRead : Type 0
CountsRead = (c gap : ℕ) (l m : List ℤ) → Agree c gap l m → turn_saturations c gap l ≡ turn_saturations c gap m

-- and is made of both or of neither
abbrev pub MadeRead : Type 0
MadeRead = (c gap : ℕ) (l m : List ℤ) → c < row_words → Agree c gap l m → turn_made c gap l ≡ turn_made c gap m

-- ---- writes

-- a row that is neither of the two stays
abbrev pub OtherRowsStay : Type 0
OtherRowsStay = (c gap : ℕ) (l : List ℤ) (i j : ℕ) → j < row_words → i ≢ 0 → i ≢ gap → part_word (turned c gap l) i j ≡ part_word l i j

-- a column before the leading one stays
abbrev pub ColumnsBeforeStay : Type 0
ColumnsBeforeStay = (c gap : ℕ) (l : List ℤ) (i j : ℕ) → j < row_words → j < c → part_word (turned c gap l) i j ≡ part_word l i j
