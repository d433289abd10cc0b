-- The words, their sum and their difference fit 32 bits. Assumes nothing.
use Rattle.std.proofs.Common.{◌≡◌, ℕ, ◌^◌, ap, sym, subst, ◌∙◌, rules, w32}
use mathlib.Core.Path.{ap₂}
use lib.IntN.{ℤ, pos, ◌+ℤ◌, ◌-ℤ◌}
use lib.Signed.{non_neg, lt_z, shr_z}
use mir.Val.{SFits}
use mir.Facts.{to_z-of_z}
use Rattle.integers.proofs.Floor.{shr_abs}
use Rattle.cordic.specs.declared.Pair.{Pair}
use Rattle.cordic.specs.MicroRotation.{oriented, micro_rotation_of}
use Rattle.rows.specs.Lanes.{Both}
use Rattle.narrow.specs.Narrow.{Short}
use Rattle.narrow.proofs.Mask.{read, fits, back, micro_rotation_by, shifted_is, oriented_is}
use Rattle.narrow.proofs.Word32Lane.micro_rotation.Goals as goal

-- a and b are the shifted words of the column, oriented by the sign of d
module _ (i : ℕ) (d u v : ℤ) (f : SFits w32 d) (h : Both Short (record { u = u; v = v })) where
  sum_is : (a : ℤ) → a ≡ oriented (lt_z (read d) (pos 0)) (read (shr_z (read v) (2 ^ i))) → read u +ℤ read a ≡ (micro_rotation_of i (non_neg d) (record { u = u; v = v })).u
  sum_is a e =
      ap₂ (λ (x y : ℤ). x +ℤ y) (back h.u) (oriented_is d (shr_abs v (2 ^ i) h.v) (shifted_is (2 ^ i) h.v) (rw (to_z-of_z f) at e))
      ∙ sym (ap (λ (p : Pair). p.u) (micro_rotation_by i d (record { u = u; v = v })))

  difference_is : (b : ℤ) → b ≡ oriented (lt_z (read d) (pos 0)) (read (shr_z (read u) (2 ^ i))) → read v -ℤ read b ≡ (micro_rotation_of i (non_neg d) (record { u = u; v = v })).v
  difference_is b e =
      ap₂ (λ (x y : ℤ). x -ℤ y) (back h.v) (oriented_is d (shr_abs u (2 ^ i) h.u) (shifted_is (2 ^ i) h.u) (rw (to_z-of_z f) at e))
      ∙ sym (ap (λ (p : Pair). p.v) (micro_rotation_by i d (record { u = u; v = v })))

pub overflow_add-result : goal.overflow_add-result
overflow_add-result c =
    let a = c.args in
    rw (sum_is a.i a.direction.0 a.u.0 a.v.0 (search rules) c.requires.before.1 c.oriented_by-a.result c.oriented_by-a.ensures) (fits c.requires.after.u)

pub overflow_sub-result : goal.overflow_sub-result
overflow_sub-result c =
    let a = c.args in
    rw (difference_is a.i a.direction.0 a.u.0 a.v.0 (search rules) c.requires.before.1 c.oriented_by-b.result c.oriented_by-b.ensures) (fits c.requires.after.v)

pub returns : goal.returns
returns c =
    let a = c.args in
    let f : SFits w32 a.direction.0 = search rules in
    let sum = sum_is a.i a.direction.0 a.u.0 a.v.0 f c.requires.before.1 c.oriented_by-a.result c.oriented_by-a.ensures in
    let difference = difference_is a.i a.direction.0 a.u.0 a.v.0 f c.requires.before.1 c.oriented_by-b.result c.oriented_by-b.ensures in
    ap₂ (λ (x y : ℤ). record { u = x; v = y })
    (to_z-of_z (subst (SFits w32) (sym sum) (fits c.requires.after.u)) ∙ sum)
    (to_z-of_z (subst (SFits w32) (sym difference) (fits c.requires.after.v)) ∙ difference)
