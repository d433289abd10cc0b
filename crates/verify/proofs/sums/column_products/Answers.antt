-- One product more at each step, up to 16: it fits 64 bits, and the sum 128. Assumes nothing.
use Rattle.std.proofs.Common.{◌≡◌, refl, ℕ, ◌+◌, ◌*◌, ◌^◌, ◌≤◌, ◌<◌, add-one, arith, rules, ℤ, pos, nat_abs, get_or, ◌+ℤ◌, ◌*ℤ◌, w32, w64, to_z, of_z}
use lib.Dec.{lit<}
use mir.Syntax.{Width, w128}
use mir.Val.{SFits}
use mir.Facts.{to_z-of_z, sfits_widen}
use Rattle.integers.specs.Sum.{sum}
use Rattle.integers.specs.Within.{Within}
use Rattle.integers.proofs.Within.{within, within-+, within-*, within_as, within_fits, fits_within}
use Rattle.workspace.specs.Workspace.{word_in}
use Rattle.verify.proofs.sums.column_products.Goals as goal

-- a number as the machine reads it back from its bits
abbrev read : Width → ℤ → ℤ
read w z = to_z w (of_z w z)

module _ (s x y : ℤ) (n : ℕ) (near : nat_abs s ≤ n * 2 ^ 62) (few : n < 16) (f : SFits w32 x) (g : SFits w32 y) where
  wide-x : SFits w64 x
  wide-x = sfits_widen tt f

  wide-y : SFits w64 y
  wide-y = sfits_widen tt g

  product : Within (x *ℤ y) (2 ^ 62)
  product = within-* (fits_within f) (fits_within g)

  product_is : read w128 (read w64 (read w64 x *ℤ read w64 y)) ≡ x *ℤ y
  product_is = rw (to_z-of_z wide-x, to_z-of_z wide-y, to_z-of_z (within_fits w64 (x *ℤ y) product (lit< tt))) (to_z-of_z (within_fits w128 (x *ℤ y) product (lit< tt)))

  after : Within (s +ℤ x *ℤ y) ((n + 1) * 2 ^ 62)
  after = within_as (within-+ (within {x = s} near) product) refl (omega arith)

  after_fits : SFits w128 (s +ℤ read w128 (read w64 (read w64 x *ℤ read w64 y)))
  after_fits = rw product_is (within_fits w128 (s +ℤ x *ℤ y) after (omega arith))

  after_is : read w128 (s +ℤ read w128 (read w64 (read w64 x *ℤ read w64 y))) ≡ s +ℤ x *ℤ y
  after_is = rw product_is (to_z-of_z (within_fits w128 (s +ℤ x *ℤ y) after (omega arith)))

pub loop-k-init : goal.loop-k-init
unfolding sum
loop-k-init c = record { number = refl; small = omega arith }

pub overflow_add-sum : goal.overflow_add-sum
overflow_add-sum c =
    let l = c.loop-k in
    let f : SFits w32 (get_or c.args.words.now (l.k * 32 + c.args.a) (pos 0)) = search rules in
    let g : SFits w32 (get_or c.args.words.now (l.k * 32 + c.args.b) (pos 0)) = search rules in
    rw (c.from-sum.ensures, c.from.ensures, c.from-in-loop-k.ensures, to_z-of_z f, to_z-of_z g) (after_fits _ _ _ l.k l.invariant.small c.loop-k-test.true f g)

pub loop-k-preserved : goal.loop-k-preserved
unfolding sum word_in
loop-k-preserved c =
    let l = c.loop-k in
    let s = to_z w128 l.sum-bits in
    let x = get_or c.args.words.now (l.k * 32 + c.args.a) (pos 0) in
    let y = get_or c.args.words.now (l.k * 32 + c.args.b) (pos 0) in
    let f : SFits w32 x = search rules in
    let g : SFits w32 y = search rules in
    rw (c.from-sum.ensures, c.from.ensures, c.from-in-loop-k.ensures, to_z-of_z f, to_z-of_z g, after_is s x y l.k l.invariant.small c.loop-k-test.true f g)
    (record { number = rw (add-one, l.invariant.number); small = (after s x y l.k l.invariant.small c.loop-k-test.true f g).abs })

pub returns-clause-number : goal.returns-clause-number
returns-clause-number c =
    let all : c.loop-k.k ≡ 16 = omega arith in
    rw all at c.loop-k.invariant.number
