-- After the last rotation: below the diagonal all is cleared, and on it each row was an upper one. One claim, which antt tests. Assumes nothing.
use mathlib.Core.List.{List}
use Prim.Native.Nat.{ℕ, suc}
use Rattle.schedule.specs.declared.Rotation.{Rotation}
use Rattle.schedule.specs.Schedule.{stage_rotations, survivors, stages, up_from, column_stages, stages_rotations, columns_rotations, schedule}
use Rattle.integers.proofs.Claim.{Claim, less, both, either, Means, sound, each}
use Rattle.schedule.proofs.Clear.{cleared, raised, before, done}

-- row r of column c is on the diagonal, above it, or cleared
unfoldable pub clear_below : List Rotation → ℕ → ℕ → Claim
clear_below ds c r = either (less r (suc c)) (cleared ds r c)

unfoldable pub column : List Rotation → ℕ → Claim
column ds c = both (raised ds c c) (each 16 (clear_below ds c))

-- that is so of the columns 0 to 14
abbrev pub columns_cleared : Claim
columns_cleared = each 15 (column (done 120))

pub order-finished : Means columns_cleared
unfolding each column clear_below cleared raised done before schedule columns_rotations stages_rotations column_stages stages survivors up_from stage_rotations
order-finished = sound columns_cleared tt
