-- One product more, which is at most 2^46, and all 16.
use Rattle.std.proofs.Common.{◌≡◌, refl, ◌∙◌, ℕ, ◌+◌, ◌*◌, ◌^◌, ◌≤◌, ◌<◌, add-one, arith, rules, ℤ, nat_abs, ◌+ℤ◌, ◌*ℤ◌, w32, w64, to_z}
use lib.Dec.{lit<}
use mir.Syntax.{w16}
use mir.Val.{SFits}
use mir.Facts.{to_z-of_z}
use Rattle.integers.specs.Matrix.{Matrix}
use Rattle.integers.specs.Sum.{sum}
use Rattle.integers.specs.Within.{Within}
use Rattle.integers.proofs.Within.{within, within-+, within-*, within_as, within_fits, fits_within}
use Rattle.covariance.proofs.Machine.{read, back}
use Rattle.weights.specs.Solution.{part_at, right_sum_of}
use Rattle.weights.proofs.system.System.right_sum.Goals as goal

module _ (s x y : ℤ) (n : ℕ) (near : nat_abs s ≤ n * 2 ^ 46) (few : n < 16) (f : SFits w32 x) (g : SFits w16 y) where
  product : Within (x *ℤ y) (2 ^ 46)
  product = within-* (fits_within f) (fits_within g)

  product_is : read (read x *ℤ read y) ≡ x *ℤ y
  product_is = rw (back (fits_within f) (lit< tt), back (fits_within g) (lit< tt)) (back product (lit< tt))

  after : Within (s +ℤ x *ℤ y) ((n + 1) * 2 ^ 46)
  after = within_as (within-+ (within {x = s} near) product) refl (omega arith)

  after_fits : SFits w64 (s +ℤ read (read x *ℤ read y))
  after_fits = rw product_is (within_fits w64 (s +ℤ x *ℤ y) after (omega arith))

  after_is : read (s +ℤ read (read x *ℤ read y)) ≡ s +ℤ x *ℤ y
  after_is = rw product_is (back after (omega arith))

pub loop-j-init : goal.loop-j-init
unfolding sum
loop-j-init c = record { is = refl; small = omega arith }

pub overflow_add-sum : goal.overflow_add-sum
overflow_add-sum c =
    let f : SFits w32 c.q.result = search rules in
    let g : SFits w16 (part_at c.args.self.now.parts c.loop-j.j) = search rules in
    rw (c.from.ensures, c.from-in-loop-j.ensures, to_z-of_z f, to_z-of_z g) (after_fits _ _ _ c.loop-j.j c.loop-j.invariant.small c.loop-j-test.true f g)

pub loop-j-preserved : goal.loop-j-preserved
unfolding sum
loop-j-preserved c =
    let f : SFits w32 c.q.result = search rules in
    let g : SFits w16 (part_at c.args.self.now.parts c.loop-j.j) = search rules in
    let i = c.loop-j.invariant in
    let e = after_is (to_z w64 c.loop-j.sum-bits) c.q.result (part_at c.args.self.now.parts c.loop-j.j) c.loop-j.j i.small c.loop-j-test.true f g in
    rw (c.from.ensures, c.from-in-loop-j.ensures, to_z-of_z f, to_z-of_z g, e)
    (record {
      is = rw (add-one, c.q.ensures, i.is);
      small = (after _ _ _ c.loop-j.j i.small c.loop-j-test.true f g).abs;
    })

all_products : (q : Matrix) (t : ℕ → ℤ) (i j : ℕ) → j ≡ 16 → sum j (λ k. q k i *ℤ t k) ≡ right_sum_of q t i
unfolding right_sum_of
all_products q t i j e = rw e

pub returns-clause-number : goal.returns-clause-number
returns-clause-number c = c.loop-j.invariant.is ∙ all_products _ _ _ _ (omega arith)
