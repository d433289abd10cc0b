-- The stored word is the scaled one, whatever the machine reads it back from. Assumes nothing.
use Rattle.std.proofs.Common.{rules, w32}
use mir.Val.{SFits}
use mir.Facts.{to_z-of_z}
use Rattle.rotation.specs.Stores.{leading_written}
use Rattle.rows.proofs.store_leading.Goals as goal

pub returns-clause-words : goal.returns-clause-words
unfolding leading_written
returns-clause-words g c =
    let x : SFits w32 c.stored-upper.result.value = search rules in
    rw (to_z-of_z x, c.stored-upper.ensures)
