-- The state after an accepted Load. Assumes nothing.
use mathlib.Core.Path.{◌≡◌}
use mathlib.Core.List.{List}
use lib.IntN.{ℤ}
use Rattle.workspace.specs.Loading.{loaded_words}
use Rattle.engine.specs.Job.{loaded_job}
use Rattle.engine.specs.Load.{load_of, load_by}
use Rattle.accuracy.specs.Demand3.{Load, start}

-- the loaded words
abbrev pub first : Load → List ℤ
first l = loaded_words l.bytes l.lent

pub start_is : (l : Load) → start l ≡ record { workspace = first l; job = loaded_job; granted = 0 }
unfolding start load_of load_by
start_is l = rw l.accepted
