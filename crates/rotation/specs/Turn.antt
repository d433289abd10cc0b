-- Document 02, U5: one turn of the part of the workspace that begins at its upper row. A turn that is already clear is skipped; any other is made, and
-- is then the rotation. Assumes nothing.
use Rattle.std.specs.Prelude.{ℕ, ◌+◌, ◌*◌, Bool, cond, ◌&&◌, List, ℤ, pos, get_or}
use Rattle.std.specs.Int.Signed.{non_neg}
use Rattle.integers.specs.Matrix.{is_zero}
use Rattle.rotation.specs.declared.Saturations.{Saturations}
use Rattle.rotation.specs.Column.{row_words}
use Rattle.rotation.specs.Rotated.{rotated, saturations_of}
use Rattle.rotation.specs.Saturations.{no_saturations}

-- the lower leading word is 0 and the upper one is not negative, both as they stand, before step 1
unfoldable pub is_clear_of : ℕ → ℕ → List ℤ → Bool
is_clear_of c gap l = is_zero (get_or l (gap * row_words + c) (pos 0)) && non_neg (get_or l c (pos 0))

-- the part after the turn: a clear one leaves it as it is
unfoldable pub turned : ℕ → ℕ → List ℤ → List ℤ
turned c gap l = cond (is_clear_of c gap l) l (rotated c gap l)

-- what it counts: a clear one counts nothing
unfoldable pub turn_saturations : ℕ → ℕ → List ℤ → Saturations
turn_saturations c gap l = cond (is_clear_of c gap l) no_saturations (saturations_of c gap l)

-- 1 for a turn truly made, 0 for a clear one
unfoldable pub turn_made : ℕ → ℕ → List ℤ → ℕ
turn_made c gap l = cond (is_clear_of c gap l) 0 1
