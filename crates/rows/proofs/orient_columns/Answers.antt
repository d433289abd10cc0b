-- Column n is oriented. Assumes nothing.
use Rattle.std.proofs.Common.{◌+◌, sym, subst, rules, arith, w32, get_or}
use mathlib.Core.Path.{ap₂}
use borrow.Author.Count.{below_more}
use lib.IntN.{ℤ, pos}
use mir.Val.{SFits}
use mir.Facts.{to_z-of_z}
use Rattle.cordic.specs.MicroRotation.{oriented_pair}
use Rattle.rotation.specs.Column.{column_at}
use Rattle.rows.specs.Lanes.{words_at}
use Rattle.rows.proofs.Rows.{next_lane, taken, two_words}
use Rattle.rows.proofs.orient_columns.Goals as goal

pub oriented-requires : goal.oriented-requires
unfolding words_at
oriented-requires g c =
    let a = c.args in
    let k = a.column + c.loop-n.n in
    let x : SFits w32 (get_or a.part.now k (pos 0)) = search rules in
    let y : SFits w32 (get_or a.part.now (a.base + k) (pos 0)) = search rules in
    subst g.W.Lane.Holds (sym (to_z-of_z x)) (taken g.met.W.Lane.stays (words_at a.base a.part.now k) (two_words _ _ x y) (c.requires.by_index k (omega arith) (omega arith))).u

pub oriented-requires-in-loop-n : goal.oriented-requires-in-loop-n
unfolding words_at
oriented-requires-in-loop-n g c =
    let a = c.args in
    let k = a.column + c.loop-n.n in
    let x : SFits w32 (get_or a.part.now k (pos 0)) = search rules in
    let y : SFits w32 (get_or a.part.now (a.base + k) (pos 0)) = search rules in
    subst g.W.Lane.Holds (sym (to_z-of_z y)) (taken g.met.W.Lane.stays (words_at a.base a.part.now k) (two_words _ _ x y) (c.requires.by_index k (omega arith) (omega arith))).v

pub loop-n-preserved : goal.loop-n-preserved
unfolding column_at oriented_pair words_at
loop-n-preserved g c =
    let a = c.args in
    let l = c.loop-n in
    let k = a.column + l.n in
    let s : SFits w32 (get_or a.part.now a.column (pos 0)) = search rules in
    let x : SFits w32 (get_or a.part.now k (pos 0)) = search rules in
    let y : SFits w32 (get_or a.part.now (a.base + k) (pos 0)) = search rules in
    let upper = rw (to_z-of_z s, to_z-of_z x) at c.oriented.ensures in
    let lower = rw (to_z-of_z s, to_z-of_z y) at c.oriented-in-loop-n.ensures in
    record {
      done =
          next_lane g.W.Lane.number l.us l.vs l.n c.oriented.result c.oriented-in-loop-n.result _ (omega arith) (omega arith) l.invariant.done
          (ap₂ (λ (u v : ℤ). record { u = u; v = v }) upper lower);
      in_range = below_more _ _ l.invariant.in_range (two_words _ _ x y);
    }
