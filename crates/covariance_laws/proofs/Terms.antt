-- What one snapshot adds to the sums of element (i, j), and its range. Assumes nothing.
use mathlib.Core.Path.{◌≡◌, ◌∙◌, ap₂}
use mathlib.Core.List.{List}
use Prim.Native.Nat.{ℕ, zero, suc, ◌+◌, ◌*◌, ◌/◌, ◌%◌, ◌^◌, ◌<◌}
use native.Mathlib.Omega.{arith}
use lib.IntN.{ℤ, pos, ◌+ℤ◌}
use mir.Syntax.{w16}
use mir.Val.{SFits}
use Rattle.integers.specs.Within.{Within}
use Rattle.integers.proofs.Within.{within-+, within--}
use Rattle.lists.specs.Lists.{tabulate}
use Rattle.lists.proofs.Tabulate.{get_d_tabulate}
use Rattle.covariance.specs.declared.Sample.{Sample}
use Rattle.covariance.specs.Sums.{product_part, sample_of, sum_at, added_word}
use Rattle.covariance.proofs.Machine.{short_product}
use Rattle.covariance.proofs.Elements.{added-part}

abbrev pub Sample16 : Sample → Type 0
Sample16 a = SFits w16 a.re × SFits w16 a.im

-- a part of a product is at most 2^31
pub product_near : (a b : Sample) (q : ℕ) → Sample16 a → Sample16 b → Within (product_part a b q) (2 ^ 31)
unfolding product_part
product_near a b zero f g = within-+ (short_product f.0 g.0) (short_product f.1 g.1)
product_near a b (suc q) f g = within-- (short_product f.1 g.0) (short_product f.0 g.1)

-- part q of element (i, j) with a snapshot added
pub element_added : (snapshot : List Sample) (words : List ℤ) (i j q : ℕ) → i < 8 → j < 8 → q < 2
    → sum_at (tabulate 128 (added_word snapshot words)) (2 * (8 * i + j) + q) ≡ sum_at words (2 * (8 * i + j) + q) +ℤ product_part (sample_of snapshot i) (sample_of snapshot j) q
element_added snapshot words i j q hi hj hq =
    let r : (8 * i + j) / 8 ≡ i = omega arith in
    let c : (8 * i + j) % 8 ≡ j = omega arith in
    get_d_tabulate 128 (added_word snapshot words) (pos 0) (2 * (8 * i + j) + q) (omega arith)
    ∙ added-part snapshot words (8 * i + j) q hq
    ∙ ap₂ (λ (m n : ℕ). sum_at words (2 * (8 * i + j) + q) +ℤ product_part (sample_of snapshot m) (sample_of snapshot n) q) r c
