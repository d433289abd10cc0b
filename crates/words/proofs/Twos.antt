-- The bits of a number of any width, by sums: of one that is not negative itself, and of a negative one as much more as there are patterns. Assumes nothing.
-- The library's conversions need no law of these; a note in docs/changes cites them, for whoever makes the bits by sums.
use mathlib.Core.Path.{◌≡◌, refl, subst}
use mathlib.Core.Bool.{true, false}
use Prim.Native.Nat.{suc, ◌^◌, ◌≤◌}
use native.Mathlib.Nat.{not-suc-le-zero, le_trans}
use borrow.Author.Tests.{le-ltb, ltb-true}
use lib.Dec.{T, lit≤}
use lib.IntN.{ℤ, pos, negsuc, ◌+ℤ◌}
use lib.Signed.{lt_z}
use mir.Syntax.{Width, w8, w16, w32, w64, w128}
use mir.Val.{bits, hbits, of_z, SFits}

half_below : (w : Width) → 2 ^ hbits w ≤ 2 ^ bits w
half_below w8 = lit≤ tt
half_below w16 = lit≤ tt
half_below w32 = lit≤ tt
half_below w64 = lit≤ tt
half_below w128 = lit≤ tt

-- a negative number of a width, and as much more as there are patterns, is its bits
pub lift : (w : Width) (z : ℤ) → SFits w z → lt_z z (pos 0) ≡ true → z +ℤ pos (2 ^ bits w) ≡ pos (of_z w z)
lift w (pos n) f t = absurd (not-suc-le-zero (ltb-true n 0 t))
lift w (negsuc m) f t = let h : suc m ≤ 2 ^ bits w = le_trans f.sfits (half_below w) in simp (le-ltb (2 ^ bits w) (suc m))

-- a number that is not negative is its bits
pub plain : (w : Width) (z : ℤ) → lt_z z (pos 0) ≡ false → z ≡ pos (of_z w z)
plain w (pos n) t = refl
plain w (negsuc m) t = absurd (subst T t tt)
