-- Column from + n of the rows is stored, from + n columns after the leading one. Assumes nothing.
use Rattle.std.proofs.Common.{◌≡◌, ℕ, ◌+◌, ◌-◌, ◌∙◌, sym, ap, subst, ap₂, refl, rules, arith, add-one, w32}
use mir.Val.{SFits, bool_byte}
use mir.Facts.{to_z-of_z}
use Rattle.cordic.specs.declared.Pair.{Pair}
use Rattle.cordic.specs.declared.Word.{Word}
use Rattle.cordic.specs.Word.{scaled, saturate}
use Rattle.rotation.specs.Column.{stored}
use Rattle.rotation.specs.Stores.{written, counted}
use Rattle.rotation.proofs.Counts.{byte_le}
use Rattle.rows.specs.Lanes.{lane}
use Rattle.rows.proofs.Rows.{lane_is}
use Rattle.rows.proofs.store_columns.Goals as goal

pub loop-n-init : goal.loop-n-init
unfolding written counted
loop-n-init g c = record { few = omega arith; done = refl; sum = refl }

pub stored-upper-requires : goal.stored-upper-requires
stored-upper-requires g c =
    let a = c.args in
    let k = a.from + c.loop-n.n in
    let d = c.index-us-from.result in
    subst (λ (p : Pair). g.W.Lane.Holds p.u) (sym (lane_is g.W.Lane.number a.us.now a.vs.now k d d (omega arith) (omega arith))) (c.requires.by_index k (omega arith)).u

pub stored-lower-requires : goal.stored-lower-requires
stored-lower-requires g c =
    let a = c.args in
    let k = a.from + c.loop-n.n in
    let d = c.index-vs-from.result in
    subst (λ (p : Pair). g.W.Lane.Holds p.v) (sym (lane_is g.W.Lane.number a.us.now a.vs.now k d d (omega arith) (omega arith))) (c.requires.by_index k (omega arith)).v

pub loop-n-preserved : goal.loop-n-preserved
unfolding written counted stored
loop-n-preserved g c =
    let s = c.args in
    let l = c.loop-n in
    let a = c.stored-upper in
    let b = c.stored-lower in
    let f = g.W.Lane.number in
    let k = s.from + l.n in
    let at : s.column + s.from + l.n - s.column ≡ k = omega arith in
    let read = lane_is f s.us.now s.vs.now k c.index-us-from.result c.index-vs-from.result (omega arith) (omega arith) in
    let here = read ∙ ap (lane f s.us.now s.vs.now) (sym at) in
    let upper = a.ensures ∙ ap (λ (p : Pair). saturate (scaled p.u)) here in
    let lower = b.ensures ∙ ap (λ (p : Pair). saturate (scaled p.v)) here in
    let x : SFits w32 a.result.value = search rules in
    let y : SFits w32 b.result.value = search rules in
    record {
      few = omega (arith, c.from-in-loop-n.ensures, byte_le a.result.saturated, c.from.ensures, byte_le b.result.saturated);
      done = rw (add-one, ← l.invariant.done, to_z-of_z x, to_z-of_z y, ← upper, ← lower);
      sum = rw (add-one, c.from-in-loop-n.ensures, c.from.ensures) (ap₂ (λ (m n : ℕ). m + n) l.invariant.sum (ap₂ (λ (x y : Word). bool_byte x.saturated + bool_byte y.saturated) upper lower));
    }
