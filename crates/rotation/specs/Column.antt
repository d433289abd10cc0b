-- Document 01, "One turn", steps 1 to 4: one column of the part of the workspace that begins at the rotation's upper row. A row has 32 words, and
-- the lower row begins `base` words on. Each column is worked from the words before the rotation. Assumes nothing.
use Rattle.std.specs.Prelude.{ℕ, ◌+◌, ◌*◌, Bool, List, ℤ, pos, get_or}
use Rattle.std.specs.Int.Signed.{lt_z}
use Rattle.cordic.specs.declared.Pair.{Pair}
use Rattle.cordic.specs.declared.Column.{Column}
use Rattle.cordic.specs.Word.{scaled, saturate}
use Rattle.cordic.specs.MicroRotation.{micro_rotations, sign, oriented_pair}

-- the words of a row
abbrev pub row_words : ℕ
row_words = 32

-- step 1: column k of the part l, oriented
unfoldable pub column_at : Bool → ℕ → List ℤ → ℕ → Pair
column_at negate base l k = oriented_pair negate (get_or l k (pos 0)) (get_or l (base + k) (pos 0))

-- step 2: column k after the 28 micro-rotations, with the signs of the leading column c
unfoldable pub rotated_at : Bool → ℕ → ℕ → List ℤ → ℕ → Pair
rotated_at negate base c l k = micro_rotations (sign (column_at negate base l c)) 28 (column_at negate base l k)

-- steps 3 and 4: both words scaled and saturated
unfoldable pub stored : Pair → Column
stored p = record { upper = saturate (scaled p.u); lower = saturate (scaled p.v) }

-- steps 1 to 4: column k, where c is the leading column and the lower row is `gap` rows on. The upper leading word decides whether all is negated
unfoldable pub column_stored : ℕ → ℕ → List ℤ → ℕ → Column
column_stored c gap l k = stored (rotated_at (lt_z (get_or l c (pos 0)) (pos 0)) (gap * row_words) c l k)
