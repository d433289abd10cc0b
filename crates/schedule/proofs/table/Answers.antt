-- `table` meets its contract: one test over the whole table, computed for its rows and for the numbers in them. Assumes nothing.
use mathlib.Core.Path.{refl}
use Rattle.schedule.specs.Schedule.{stage_rotations, survivors, stages, up_from, column_stages, stages_rotations, columns_rotations, schedule, flat}
use Rattle.schedule.proofs.table.Goals as goal

pub returns-clause-rows : goal.returns-clause-rows
unfolding schedule columns_rotations stages_rotations column_stages stages survivors up_from stage_rotations
returns-clause-rows c = refl

pub returns-clause-numbers : goal.returns-clause-numbers
unfolding flat schedule columns_rotations stages_rotations column_stages stages survivors up_from stage_rotations
returns-clause-numbers c = refl
