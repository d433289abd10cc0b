-- The sum and the difference of two products of 16-bit numbers, which the machine reads back as they are.
use Rattle.std.proofs.Common.{◌≡◌, rules, ◌+ℤ◌, ◌-ℤ◌, ◌*ℤ◌, nat_abs, ◌≤◌, ◌^◌, w64}
use lib.Dec.{lit<}
use mir.Syntax.{w16}
use mir.Val.{SFits}
use mir.Facts.{to_z-of_z}
use Rattle.integers.proofs.Within.{within-+, within--}
use Rattle.covariance.specs.declared.Sample.{Sample}
use Rattle.covariance.specs.Sums.{product_part}
use Rattle.covariance.proofs.Machine.{read, read_short, short_product, plus_is, plus_fits, minus_is, minus_fits}
use Rattle.covariance.proofs.Sample.times_conjugate.Goals as goal

record Short (a : Sample) : Type 0 where
  re : SFits w16 a.re
  im : SFits w16 a.im

module _ (a b : Sample) (s : Short a) (t : Short b) where
  real_fits : SFits w64 (read (read a.re *ℤ read b.re) +ℤ read (read a.im *ℤ read b.im))
  real_fits = rw (read_short s.re, read_short s.im, read_short t.re, read_short t.im) (plus_fits (short_product s.re t.re) (short_product s.im t.im) (lit< tt))

  real_is : read (read (read a.re *ℤ read b.re) +ℤ read (read a.im *ℤ read b.im)) ≡ product_part a b 0
  unfolding product_part
  real_is = rw (read_short s.re, read_short s.im, read_short t.re, read_short t.im) (plus_is (short_product s.re t.re) (short_product s.im t.im) (lit< tt))

  imaginary_fits : SFits w64 (read (read a.im *ℤ read b.re) -ℤ read (read a.re *ℤ read b.im))
  imaginary_fits = rw (read_short s.re, read_short s.im, read_short t.re, read_short t.im) (minus_fits (short_product s.im t.re) (short_product s.re t.im) (lit< tt))

  imaginary_is : read (read (read a.im *ℤ read b.re) -ℤ read (read a.re *ℤ read b.im)) ≡ product_part a b 1
  unfolding product_part
  imaginary_is = rw (read_short s.re, read_short s.im, read_short t.re, read_short t.im) (minus_is (short_product s.im t.re) (short_product s.re t.im) (lit< tt))

  small : (nat_abs (product_part a b 0) ≤ 2 ^ 31) × (nat_abs (product_part a b 1) ≤ 2 ^ 31)
  unfolding product_part
  small = ((within-+ (short_product s.re t.re) (short_product s.im t.im)).abs, (within-- (short_product s.im t.re) (short_product s.re t.im)).abs)

pub overflow_add-result : goal.overflow_add-result
overflow_add-result c =
    let a = c.args.self in
    let b = c.args.other in
    let s : Short a = record { re = search rules; im = search rules } in
    let t : Short b = record { re = search rules; im = search rules } in
    rw (c.from-x.ensures, c.from-y.ensures, c.from-u.ensures, c.from-v.ensures, to_z-of_z s.re, to_z-of_z s.im, to_z-of_z t.re, to_z-of_z t.im) (real_fits a b s t)

pub overflow_sub-result : goal.overflow_sub-result
overflow_sub-result c =
    let a = c.args.self in
    let b = c.args.other in
    let s : Short a = record { re = search rules; im = search rules } in
    let t : Short b = record { re = search rules; im = search rules } in
    rw (c.from-x.ensures, c.from-y.ensures, c.from-u.ensures, c.from-v.ensures, to_z-of_z s.re, to_z-of_z s.im, to_z-of_z t.re, to_z-of_z t.im) (imaginary_fits a b s t)

pub returns-clause-real : goal.returns-clause-real
returns-clause-real c =
    let a = c.args.self in
    let b = c.args.other in
    let s : Short a = record { re = search rules; im = search rules } in
    let t : Short b = record { re = search rules; im = search rules } in
    rw (c.from-x.ensures, c.from-y.ensures, c.from-u.ensures, c.from-v.ensures, to_z-of_z s.re, to_z-of_z s.im, to_z-of_z t.re, to_z-of_z t.im) (real_is a b s t)

pub returns-clause-imaginary : goal.returns-clause-imaginary
returns-clause-imaginary c =
    let a = c.args.self in
    let b = c.args.other in
    let s : Short a = record { re = search rules; im = search rules } in
    let t : Short b = record { re = search rules; im = search rules } in
    rw (c.from-x.ensures, c.from-y.ensures, c.from-u.ensures, c.from-v.ensures, to_z-of_z s.re, to_z-of_z s.im, to_z-of_z t.re, to_z-of_z t.im) (imaginary_is a b s t)

pub returns-clause-small : goal.returns-clause-small
returns-clause-small c =
    let a = c.args.self in
    let b = c.args.other in
    let s : Short a = record { re = search rules; im = search rules } in
    let t : Short b = record { re = search rules; im = search rules } in
    rw (c.from-x.ensures, c.from-y.ensures, c.from-u.ensures, c.from-v.ensures, to_z-of_z s.re, to_z-of_z s.im, to_z-of_z t.re, to_z-of_z t.im, real_is a b s t, imaginary_is a b s t) (small a b s t)
