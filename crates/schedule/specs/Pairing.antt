-- Document 01, "Tree order": which rows a stage pairs and in which order, the whole schedule in closed form, 120 rotations and 49 stages, and in each
-- column the stages end with its first row alone. Document 02, U9: no column and no row passes 15. That the constant table of the code holds the schedule is
-- the contract of `table`. Assumes nothing.
use Rattle.std.specs.Prelude.{◌≡◌, refl, List, [], ◌∷◌, true, ◌&&◌, cond, ℕ, ◌+◌, ◌*◌, ◌/◌, ◌^◌, ◌<◌, ◌≤◌, eqb, ltb, length, get_or}
use Rattle.lists.specs.Lists.{all_below, joined}
use Rattle.schedule.specs.declared.Rotation.{Rotation}
use Rattle.schedule.specs.Schedule.{rotation_count, stage_rotations, survivors, stages, up_from, column_stages, stages_rotations, columns_rotations, columns_stages, schedule, schedule_stages, no_rotation, flat}

-- ---- one stage, whichever rows stand

-- "the standing rows are paired in order, first with second, third with fourth": rotation m of a stage pairs the rows at places 2 m and 2 m + 1
abbrev pub StagePairs : Type 0
StagePairs =
    (j : ℕ) (rows : List ℕ) (m : ℕ) → 2 * m + 1 < length rows
    → get_or (stage_rotations j rows) m no_rotation ≡ record { column = j; upper = get_or rows (2 * m) 0; lower = get_or rows (2 * m + 1) 0 }

-- "an odd last row waits": there are half as many rotations as rows, rounded down
abbrev pub StageCount : Type 0
StageCount = (j : ℕ) (rows : List ℕ) → length (stage_rotations j rows) ≡ length rows / 2

-- "the upper row of a pair stands on": row m after the stage is the row at place 2 m before it, and a row that waited is the last of them
abbrev pub StageStands : Type 0
StageStands = (rows : List ℕ) (m : ℕ) → 2 * m < length rows → get_or (survivors rows) m 0 ≡ get_or rows (2 * m) 0

abbrev pub StandingCount : Type 0
StandingCount = (rows : List ℕ) → length (survivors rows) ≡ (length rows + 1) / 2

-- ---- the whole schedule

-- pair m of stage s in column j: the rows that stand are 2^s apart, and every second of them is an upper one. There is none where the lower row would be
-- past row 15
unfoldable pub tree_pair : ℕ → ℕ → ℕ → List Rotation
tree_pair j s m =
    let upper = j + m * 2 ^ (s + 1) in
    let lower = upper + 2 ^ s in
    cond (ltb lower 16) (record { column = j; upper = upper; lower = lower } ∷ []) []

-- columns 0 to 14, in each of them stages 0 to 3, and in each stage its pairs, at most eight, from the top
pub schedule_tree : schedule ≡ joined 15 (λ j. joined 4 (λ s. joined 8 (λ m. tree_pair j s m)))
unfolding joined tree_pair schedule columns_rotations stages_rotations column_stages stages survivors up_from stage_rotations
schedule_tree = refl

pub rotations_120 : length schedule ≡ rotation_count
unfolding schedule columns_rotations stages_rotations column_stages stages survivors up_from stage_rotations
rotations_120 = refl

pub stages_49 : length schedule_stages ≡ 49
unfolding schedule_stages columns_stages column_stages stages survivors up_from
stages_49 = refl

-- the rows that stand after the last of a list of stages
unfoldable pub standing : List ℕ → List (List ℕ) → List ℕ
standing rows [] = rows
standing rows (stage ∷ rest) = standing (survivors stage) rest

-- after the stages of each of the columns 0 to 14 one row stands, and it is the column's own
pub row_alone : all_below 15 (λ j. eqb (length (standing [] (column_stages j))) 1 && eqb (get_or (standing [] (column_stages j)) 0 16) j) ≡ true
unfolding all_below standing column_stages stages survivors up_from
row_alone = refl

-- document 02, U9, "Columns and rows never pass 15": none of the 360 numbers does, and none is missing, since it is so whatever `past` would stand for one
abbrev pub AtMost15 : Type 0
AtMost15 = (k past : ℕ) → k < 360 → get_or (flat schedule) k past ≤ 15
