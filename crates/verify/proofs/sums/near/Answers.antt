-- The difference fits 128 bits, so that it is what the machine tests. Assumes nothing.
use Rattle.std.proofs.Common.{◌≡◌, ℤ, pos, nat_abs, ◌≤◌, ◌^◌, ◌-ℤ◌, ◌*ℤ◌, w32, to_z, of_z}
use lib.Dec.{lit<}
use mir.Syntax.{w128}
use mir.Val.{SFits}
use mir.Facts.{to_z-of_z, sfits_widen}
use Rattle.integers.specs.Within.{Within, is_within}
use Rattle.integers.proofs.Within.{within, within--, within-*, within_pos, within_fits, fits_within}
use Rattle.verify.proofs.sums.near.Goals as goal

abbrev read : ℤ → ℤ
read z = to_z w128 (of_z w128 z)

module _ (s t : ℤ) (h : nat_abs s ≤ 2 ^ 66) (f : SFits w32 t) where
  due : Within (pos 1073741824 *ℤ t) (2 ^ 61)
  due = within-* (within_pos 1073741824) (fits_within f)

  error_is : read (read s -ℤ read (pos 1073741824 *ℤ read t)) ≡ s -ℤ pos 1073741824 *ℤ t
  error_is =
      let wide : SFits w128 t = sfits_widen tt f in
      rw (to_z-of_z wide, to_z-of_z (within_fits w128 s (within h) (lit< tt)), to_z-of_z (within_fits w128 (pos 1073741824 *ℤ t) due (lit< tt)))
      (to_z-of_z (within_fits w128 (s -ℤ pos 1073741824 *ℤ t) (within-- (within {x = s} h) due) (lit< tt)))

pub returns : goal.returns
unfolding is_within
returns c = rw (c.unsigned_abs.ensures.value, c.from.ensures, to_z-of_z c.ranges.word, error_is c.args.sum c.args.word c.requires c.ranges.word)
