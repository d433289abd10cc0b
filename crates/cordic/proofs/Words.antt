-- Laws of a column's words, from two words of 32 bits, and of a word as it is stored. Assumes nothing.
use Prim.Native.Nat.{ℕ, ◌+◌, ◌-◌, ◌*◌, ◌^◌, ◌≤◌}
use native.Mathlib.Omega.{arith}
use mathlib.Core.Path.{◌≡◌}
use mathlib.Core.Bool.{Bool, true, false}
use lib.Dec.{lit<}
use lib.IntN.{ℤ, pos, negsuc}
use lib.Signed.{mag, nat_abs-le}
use borrow.Author.Tests.{le-ltb}
use mir.Syntax.{w32}
use mir.Val.{SFits}
use Rattle.cordic.specs.Word.{gain, scaled, saturate}
use Rattle.cordic.specs.declared.Pair.{Pair}
use Rattle.cordic.specs.Range.{InRange}
use Rattle.cordic.specs.MicroRotation.{oriented, oriented_pair, micro_rotations}
use Rattle.integers.proofs.Within.{within, within_fits}
use Rattle.integers.proofs.Magnitude.{mag-neg}
use Rattle.cordic.proofs.Growth.{micro_rotations_within}
use Rattle.cordic.proofs.Scale.{scale_abs}

oriented-small : (n : Bool) (x : ℤ) → SFits w32 x → mag (oriented n x) ≤ 2 ^ 31
unfolding oriented
oriented-small true x f = omega (arith, mag-neg x, f.sfits)
oriented-small false x f = omega (arith, f.sfits)

pub pair_within : (n : Bool) (x y : ℤ) → SFits w32 x → SFits w32 y → InRange (2 ^ 31) (oriented_pair n x y)
unfolding oriented_pair
pair_within n x y f g = record { upper = oriented-small n x f; lower = oriented-small n y g }

-- and stay small through all 28 micro-rotations
pub words_within : (p : Pair) → InRange (2 ^ 31 - 1) p → (negate : Bool) (s : ℕ → Bool) (n : ℕ) → n ≤ 28 → InRange (2 ^ 33 + 2 ^ 32) (micro_rotations s n (oriented_pair negate p.u p.v))
words_within p h negate s n few =
    micro_rotations_within s n (oriented_pair negate p.u p.v) few
    (pair_within negate p.u p.v (record { sfits = omega (arith, h.upper) }) (record { sfits = omega (arith, h.lower) }))

-- ---- as they are stored

-- a word that fits 32 bits is stored as it is
pub saturate_fits : (z : ℤ) → SFits w32 z → saturate z ≡ record { value = z; saturated = false }
unfolding saturate
saturate_fits (pos n) f = rw (le-ltb 2147483647 n (omega (arith, f.sfits)))
saturate_fits (negsuc n) f = rw (le-ltb 2147483647 n (omega (arith, f.sfits)))

-- a word of 32 bits that is scaled is one still: the gain is below 2^30
pub scaled_fits : (w : ℤ) → SFits w32 w → SFits w32 (scaled w)
scaled_fits w f = within_fits w32 (scaled w) {n = 2 * gain} (within (omega (arith, scale_abs w (2 ^ 31) (within (nat_abs-le w f.sfits))))) (lit< tt)
