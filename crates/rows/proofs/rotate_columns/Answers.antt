-- The columns stay such as a micro-rotation asks, and the leading lower word has the definition's sign. Assumes nothing.
use Rattle.std.proofs.Common.{◌∙◌, suc, refl, rules, arith, add-one}
use native.Mathlib.Nat.{le_refl}
use Rattle.cordic.specs.MicroRotation.{micro_rotations}
use Rattle.rows.specs.Lanes.{lane}
use Rattle.rows.proofs.Rows.{sign_is}
use Rattle.rows.proofs.rotate_columns.Goals as goal

pub loop-i-init : goal.loop-i-init
unfolding micro_rotations
loop-i-init g c j p q = refl

pub micro_rotate_columns-requires : goal.micro_rotate_columns-requires
unfolding micro_rotations
micro_rotate_columns-requires g c =
    let l = c.loop-i in
    let f = g.W.Lane.number in
    let p = lane f c.args.us.now c.args.vs.now in
    let e = sign_is f l.us l.vs c.index-vs-0.result (p 0) l.i (search rules) (l.invariant 0 (le_refl 0) c.requires.count_bound.0) in (
      search rules,
      (
        (omega arith, omega arith),
        (
          (λ j below. rw (l.invariant j (omega arith) below) (c.requires.by_index j below l.i (omega arith))),
          (λ j below. rw (e, l.invariant j (omega arith) below) (c.requires.by_index j below (suc l.i) (omega arith))),
        ),
      ),
    )

pub loop-i-preserved : goal.loop-i-preserved
unfolding micro_rotations
loop-i-preserved g c j from below =
    let l = c.loop-i in
    let f = g.W.Lane.number in
    let p = lane f c.args.us.now c.args.vs.now in
    let e = sign_is f l.us l.vs c.index-vs-0.result (p 0) l.i (search rules) (l.invariant 0 (le_refl 0) c.requires.count_bound.0) in
    c.micro_rotate_columns.ensures j from below ∙ rw (e, l.invariant j from below, add-one)
