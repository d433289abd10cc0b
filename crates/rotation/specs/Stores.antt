-- Only the contracts of inner functions of the crate `rows` use this: the columns that their loops hold in two rows apart, and what
-- their loops have stored in the part, whose lower row begins `base` words on, and have counted. `Rotated` says what comes of it. Assumes nothing.
use Rattle.std.specs.Prelude.{ℕ, zero, suc, ◌+◌, ◌-◌, ◌≤◌, ◌<◌, ◌≡◌, List, ℤ, pos, get_or, set}
use mir.Val.{bool_byte}
use Rattle.cordic.specs.declared.Pair.{Pair}
use Rattle.cordic.specs.declared.Word.{Word}
use Rattle.cordic.specs.declared.Column.{Column}
use Rattle.rotation.specs.declared.Saturations.{Saturations}

-- ---- two rows held apart

-- column k of the rows
unfoldable pub pair_at : List ℤ → List ℤ → ℕ → Pair
pair_at us vs k = record { u = get_or us k (pos 0); v = get_or vs k (pos 0) }

-- the columns from `from` up to k are as f says
abbrev pub Columns : (ℕ → Pair) → ℕ → ℕ → List ℤ → List ℤ → Type 0
Columns f from k us vs = (j : ℕ) → from ≤ j → j < k → pair_at us vs j ≡ f j

-- ---- the words

-- n columns from column c on, stored as f says
unfoldable pub written : (ℕ → Column) → ℕ → ℕ → ℕ → List ℤ → List ℤ
written f base c zero l = l
written f base c (suc n) l =
    set (set (written f base c n l) (c + n) (f (c + n)).upper.value) (base + (c + n)) (f (c + n)).lower.value

-- the leading column c: its upper word is w, its lower word 0
unfoldable pub leading_written : Word → ℕ → ℕ → List ℤ → List ℤ
leading_written w base c l = set (set l c w.value) (base + c) (pos 0)

-- the columns from the leading column c on, as f says
unfoldable pub rows_written : (ℕ → Column) → ℕ → ℕ → List ℤ → List ℤ
rows_written f base c l = written f base (c + 1) (31 - c) (leading_written (f c).upper base c l)

-- ---- the counts

-- how many words of n columns from column c on saturation altered
unfoldable pub counted : (ℕ → Column) → ℕ → ℕ → ℕ
counted f c zero = 0
counted f c (suc n) = counted f c n + (bool_byte (f (c + n)).upper.saturated + bool_byte (f (c + n)).lower.saturated)

-- and of the columns from the leading column c on, by side: c is one of R's, and its lower word never counts
abbrev pub rows_counted : (ℕ → Column) → ℕ → Saturations
rows_counted f c = record { r = bool_byte (f c).upper.saturated + counted f (c + 1) (15 - c); q = counted f 16 16 }
