-- Turns of the workspace in the order of the schedule: the words that they leave, what they count, and how many of them are truly made. What stands behind
-- the 512 words is carried along. Assumes nothing.
use Rattle.std.specs.Prelude.{ℕ, zero, suc, ◌+◌, ◌-◌, ◌*◌, List, ◌++◌, ℤ, take, drop}
use Rattle.rotation.specs.declared.Saturations.{Saturations}
use Rattle.rotation.specs.Column.{row_words}
use Rattle.rotation.specs.Turn.{turned, turn_saturations, turn_made}
use Rattle.rotation.specs.Saturations.{no_saturations, added}
use Rattle.schedule.specs.declared.Rotation.{Rotation}
use Rattle.schedule.specs.Schedule.{rotation_at_of}

-- the part of the workspace that begins at a rotation's upper row
abbrev pub rows_from : Rotation → List ℤ → List ℤ
rows_from t l = drop (t.upper * row_words) l

-- the workspace after a turn of that part
unfoldable pub workspace_turned : Rotation → List ℤ → List ℤ
workspace_turned t l = take (t.upper * row_words) l ++ turned t.column (t.lower - t.upper) (rows_from t l)

-- what the turn counts
unfoldable pub workspace_saturations : Rotation → List ℤ → Saturations
workspace_saturations t l = turn_saturations t.column (t.lower - t.upper) (rows_from t l)

-- 1 where it is made, 0 where it is clear
unfoldable pub workspace_made : Rotation → List ℤ → ℕ
workspace_made t l = turn_made t.column (t.lower - t.upper) (rows_from t l)

-- the words after k turns from turn number n on
unfoldable pub words_after : ℕ → ℕ → List ℤ → List ℤ
words_after n zero l = l
words_after n (suc k) l = workspace_turned (rotation_at_of (n + k)) (words_after n k l)

-- what they count
unfoldable pub saturations_counted : ℕ → ℕ → List ℤ → Saturations
saturations_counted n zero l = no_saturations
saturations_counted n (suc k) l = added (saturations_counted n k l) (workspace_saturations (rotation_at_of (n + k)) (words_after n k l))

-- how many of them are truly made
unfoldable pub turns_made : ℕ → ℕ → List ℤ → ℕ
turns_made n zero l = 0
turns_made n (suc k) l = turns_made n k l + workspace_made (rotation_at_of (n + k)) (words_after n k l)
