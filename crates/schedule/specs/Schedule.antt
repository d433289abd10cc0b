-- Document 01, "Tree order": the schedule by its pairing rule, which says which rows each rotation pairs, and in which column. No table stands
-- here. Assumes nothing.
use Rattle.std.specs.Prelude.{ℕ, zero, suc, ◌-◌, List, [], ◌∷◌, ◌++◌, get_or}
use Rattle.schedule.specs.declared.Rotation.{Rotation}

-- how many rotations there are: `rotations_120` shows it
abbrev pub rotation_count : ℕ
rotation_count = 120

-- the rotations of one stage: first with second, third with fourth; an odd last row waits
unfoldable pub stage_rotations : ℕ → List ℕ → List Rotation
stage_rotations j [] = []
stage_rotations j (a ∷ []) = []
stage_rotations j (a ∷ b ∷ rest) = record { column = j; upper = a; lower = b } ∷ stage_rotations j rest

-- the rows that stand after it: the upper one of each pair, and the row that waited
unfoldable pub survivors : List ℕ → List ℕ
survivors [] = []
survivors (a ∷ []) = a ∷ []
survivors (a ∷ b ∷ rest) = a ∷ survivors rest

-- the stages of a column, each as the rows that stand at its start, until one row stands alone.
-- The first argument bounds their number: a stage takes at least one row away, so the number of rows is enough
unfoldable pub stages : ℕ → List ℕ → List (List ℕ)
stages zero rows = []
stages (suc n) [] = []
stages (suc n) (a ∷ []) = []
stages (suc n) (a ∷ b ∷ rest) = (a ∷ b ∷ rest) ∷ stages n (survivors (a ∷ b ∷ rest))

-- n numbers from a on
unfoldable pub up_from : ℕ → ℕ → List ℕ
up_from a zero = []
up_from a (suc n) = a ∷ up_from (suc a) n

-- in column j the rows j to 15 stand
unfoldable pub column_stages : ℕ → List (List ℕ)
unfolding stages up_from
column_stages j = stages (16 - j) (up_from j (16 - j))

-- the rotations of a list of stages
unfoldable pub stages_rotations : ℕ → List (List ℕ) → List Rotation
stages_rotations j [] = []
stages_rotations j (rows ∷ rest) = stage_rotations j rows ++ stages_rotations j rest

-- the columns of a list, from left to right
unfoldable pub columns_rotations : List ℕ → List Rotation
columns_rotations [] = []
columns_rotations (j ∷ js) = stages_rotations j (column_stages j) ++ columns_rotations js

unfoldable pub columns_stages : List ℕ → List (List ℕ)
columns_stages [] = []
columns_stages (j ∷ js) = column_stages j ++ columns_stages js

-- columns 0 to 14: document 01's tree order, and its stages
unfoldable pub schedule : List Rotation
schedule = columns_rotations (up_from 0 15)

unfoldable pub schedule_stages : List (List ℕ)
schedule_stages = columns_stages (up_from 0 15)

-- what stands past the end
abbrev pub no_rotation : Rotation
no_rotation = record { column = 0; upper = 0; lower = 0 }

-- rotation number n
unfoldable pub rotation_at_of : ℕ → Rotation
rotation_at_of n = get_or schedule n no_rotation

-- a rotation as three numbers
abbrev pub triple : Rotation → List ℕ
triple t = t.column ∷ t.upper ∷ t.lower ∷ []

-- rotations laid out as numbers: column, upper row and lower row of each
unfoldable pub flat : List Rotation → List ℕ
flat [] = []
flat (t ∷ ts) = t.column ∷ t.upper ∷ t.lower ∷ flat ts
