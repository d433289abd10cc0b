-- The sum of two columns, and the loaded word of the pair. Assumes nothing.
use Rattle.std.proofs.Common.{rules, w32}
use lib.IntN.{pos}
use lib.ListN.{get_or}
use mir.Syntax.{w128}
use mir.Val.{SFits}
use mir.Facts.{to_z-of_z}
use Rattle.verify.specs.Sums.{is_near}
use Rattle.verify.proofs.pairs.pair_near.Goals as goal

pub returns : goal.returns
unfolding is_near
returns c =
    let a = c.args in
    let s : SFits w128 c.column_products-sum.result = search rules in
    let w : SFits w32 (get_or a.loaded.now a.k (pos 0)) = search rules in
    rw (to_z-of_z s, to_z-of_z w, c.column_products-sum.ensures.number) at c.near.ensures
