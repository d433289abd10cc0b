-- Document 01, "One turn", and document 02, U1: what one rotation makes of the part of the workspace that begins at its upper row. The words stand
-- here by position, and what is counted stands by column. Assumes nothing.
use Rattle.std.specs.Prelude.{ℕ, ◌+◌, ◌*◌, ◌/◌, ◌%◌, cond, List, ltb, eqb, ℤ, pos, length, get_or}
use mir.Val.{bool_byte}
use Rattle.integers.specs.Sum.{total}
use Rattle.lists.specs.Lists.{tabulate}
use Rattle.rotation.specs.Column.{row_words, column_stored}
use Rattle.rotation.specs.declared.Saturations.{Saturations}

-- ---- the words

-- the word at row i, column j of the part after the rotation. Row 0 is the upper row and row `gap` the lower one; other rows and the columns
-- before the leading one stay. Step 5: the lower leading word is 0
unfoldable pub rotated_word : ℕ → ℕ → List ℤ → ℕ → ℕ → ℤ
rotated_word c gap l i j =
    cond (ltb j c) (get_or l (i * row_words + j) (pos 0))
    (cond (eqb i 0) (column_stored c gap l j).upper.value
    (cond (eqb i gap) (cond (eqb j c) (pos 0) (column_stored c gap l j).lower.value)
    (get_or l (i * row_words + j) (pos 0))))

-- the rotation whose leading column is c and whose lower row is `gap` rows on
unfoldable pub rotated : ℕ → ℕ → List ℤ → List ℤ
rotated c gap l = tabulate (length l) (λ p. rotated_word c gap l (p / row_words) (p % row_words))

-- ---- the counts

-- how many words of column j saturation altered (document 01's clamps): step 5, the lower leading word never counts
unfoldable pub saturations_at : ℕ → ℕ → List ℤ → ℕ → ℕ
saturations_at c gap l j =
    cond (ltb j c) 0
    (bool_byte (column_stored c gap l j).upper.saturated + cond (eqb j c) 0 (bool_byte (column_stored c gap l j).lower.saturated))

-- the columns of a side: R stands in columns 0 to 15, and Q transposed in columns 16 to 31
abbrev pub side_columns : ℕ
side_columns = 16

-- what the rotation counts: the saturations of the columns of R, and those of the columns of Q
unfoldable pub saturations_of : ℕ → ℕ → List ℤ → Saturations
saturations_of c gap l =
    record {
      r = total side_columns (saturations_at c gap l);
      q = total side_columns (λ j. saturations_at c gap l (side_columns + j));
    }
