-- The leading column, the others of R, and then those of Q. Assumes nothing.
use Rattle.std.proofs.Common.{◌≡◌, ℕ, ◌+◌, ◌-◌, ◌<◌, ◌∙◌, List, ℤ, length, get_or, sym, ap, ap₂, subst, arith}
use mir.Val.{bool_byte}
use Rattle.cordic.specs.declared.Pair.{Pair}
use Rattle.cordic.specs.Word.{scaled, saturate}
use Rattle.rotation.specs.Column.{stored}
use Rattle.rotation.specs.Stores.{leading_written}
use Rattle.rotation.proofs.Counts.{byte_le, sides}
use Rattle.rotation.proofs.Stores.{counted_few, sides_of}
use Rattle.rows.specs.Lanes.{lane}
use Rattle.rows.proofs.Rows.{lane_is}
use Rattle.rows.proofs.store_rows.Goals as goal

-- the leading column, as it is read
module _ {A : Type 0} (f : A → ℤ) (us vs : List A) (d : A) (c : ℕ) (h : 0 < length us) (k : 0 < length vs) where
  leading_is : record { u = f (get_or us 0 d); v = f (get_or vs 0 d) } ≡ lane f us vs (c - c)
  leading_is =
      let first : c - c ≡ 0 = omega arith in
      lane_is f us vs 0 d d h k ∙ ap (lane f us vs) (sym first)

pub store_leading-lead-requires : goal.store_leading-lead-requires
store_leading-lead-requires g c =
    let s = c.args in
    let d = c.index-us-0.result in
    (omega arith, omega arith, subst (λ (p : Pair). g.W.Lane.Holds p.u) (sym (lane_is g.W.Lane.number s.us.now s.vs.now 0 d d (omega arith) (omega arith))) (c.requires.by_index 0 (omega arith)).u)

pub overflow_add-result : goal.overflow_add-result
overflow_add-result g c =
    let a = c.args in
    let f = g.W.Lane.number in
    let lead = byte_le (saturate (scaled (f (get_or a.us.now 0 c.index-us-0.result)))).saturated in
    let left = counted_few (λ (k : ℕ). stored (lane f a.us.now a.vs.now (k - a.column))) (a.column + 1) (c.max-side.result - (a.column + 1)) in
    omega (arith, c.store_leading-lead.ensures.saturations, lead, c.store_columns-left.ensures.saturations, left)

pub returns-clause-words : goal.returns-clause-words
unfolding stored
returns-clause-words g c =
    let a = c.args in
    let f = g.W.Lane.number in
    let here = leading_is f a.us.now a.vs.now c.index-us-0.result a.column (omega arith) (omega arith) in
    let side = c.max-side.result in
    let after : a.column < side = omega (arith, c.max-side.ensures) in
    let right : a.column + (side - a.column) ≡ side = omega (arith, after) in
    sides_of
    (λ (k : ℕ). stored (lane f a.us.now a.vs.now (k - a.column)))
    a.base
    a.column
    side
    a.part.now
    c.store_leading-lead.new.part
    c.store_columns-left.new.part
    c.store_columns-q.new.part
    after
    (omega (arith, c.max-side.ensures))
    (c.store_leading-lead.ensures.words ∙ ap (λ (p : Pair). leading_written (saturate (scaled p.u)) a.base a.column a.part.now) here)
    c.store_columns-left.ensures.words
    (rw right at c.store_columns-q.ensures.words)

pub returns-clause-saturations : goal.returns-clause-saturations
unfolding stored
returns-clause-saturations g c r =
    let a = c.args in
    let f = g.W.Lane.number in
    let here = leading_is f a.us.now a.vs.now c.index-us-0.result a.column (omega arith) (omega arith) in
    let side : c.max-side.result ≡ 16 = omega (arith, c.max-side.ensures, r) in
    let right : a.column + (16 - a.column) ≡ 16 = omega arith in
    let few : 16 - (a.column + 1) ≡ 15 - a.column = omega arith in
    let lead = c.store_leading-lead.ensures.saturations ∙ ap (λ (p : Pair). bool_byte (saturate (scaled p.u)).saturated) here in
    sides (ap₂ (λ (m n : ℕ). m + n) lead (rw (side, few) at c.store_columns-left.ensures.saturations)) (rw (side, right) at c.store_columns-q.ensures.saturations)
