-- Column k is worked from its words before the micro-rotation, which are those of the rows at the start. Assumes nothing.
use Rattle.std.proofs.Common.{◌∙◌, ap, sym, subst, arith}
use native.Mathlib.Nat.{le_refl}
use Rattle.std.specs.Int.Signed.{non_neg}
use Rattle.cordic.specs.MicroRotation.{micro_rotation_of}
use Rattle.rows.specs.Lanes.{Both}
use Rattle.rows.proofs.Rows.{lane_is, next_lane, later_lane}
use Rattle.rows.proofs.micro_rotate_columns.Goals as goal

pub micro_rotation-x-requires-clause-before : goal.micro_rotation-x-requires-clause-before
micro_rotation-x-requires-clause-before g c =
    let l = c.loop-k in
    let same = lane_is g.W.Lane.number l.us l.vs l.k c.index-us-k.result c.index-vs-k.result (omega arith) (omega arith) ∙ l.invariant.rest l.k (le_refl l.k) in
    (c.requires.i_bound.0, subst (Both g.W.Lane.Holds) (sym same) (c.requires.before l.k c.loop-k-test.true))

pub micro_rotation-x-requires-clause-after : goal.micro_rotation-x-requires-clause-after
micro_rotation-x-requires-clause-after g c =
    let l = c.loop-k in
    let same = lane_is g.W.Lane.number l.us l.vs l.k c.index-us-k.result c.index-vs-k.result (omega arith) (omega arith) ∙ l.invariant.rest l.k (le_refl l.k) in
    subst (λ q. Both g.W.Lane.Holds (micro_rotation_of c.args.i (non_neg (g.W.Lane.number c.args.direction)) q)) (sym same) (c.requires.after l.k c.loop-k-test.true)

pub loop-k-preserved : goal.loop-k-preserved
loop-k-preserved g c =
    let l = c.loop-k in
    let m = c.micro_rotation-x in
    let same = lane_is g.W.Lane.number l.us l.vs l.k c.index-us-k.result c.index-vs-k.result (omega arith) (omega arith) ∙ l.invariant.rest l.k (le_refl l.k) in
    record {
      done =
          next_lane g.W.Lane.number l.us l.vs l.k m.result.0 m.result.1 _ (omega arith) (omega arith) l.invariant.done
          (m.ensures ∙ ap (micro_rotation_of c.args.i (non_neg (g.W.Lane.number c.args.direction))) same);
      rest = later_lane g.W.Lane.number l.us l.vs l.k m.result.0 m.result.1 _ l.invariant.rest;
    }
