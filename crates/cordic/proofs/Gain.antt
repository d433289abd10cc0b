-- The gain is the largest such number: it is one, the next number is none, and what is larger still is none either. With 26, 27, 29 or 30 for the 28 the
-- same proof would do; that there are 28 is fixed by M12, as `Largest` says. Assumes nothing.
use Prim.Native.Nat.{ℕ, suc, ◌*◌, ◌^◌, ◌≤◌, ◌<◌}
use native.Mathlib.Nat.{le_trans, lt_irrefl, lt_of_lt_of_le, mul-le-mul_right, mul-le-mul}
use native.Mathlib.Decide.{dec_le}
use native.Mathlib.Omega.{arith}
use lib.Dec.{lit<, lit≤}
use Rattle.cordic.specs.Word.{gain}
use Rattle.cordic.specs.Gain.{shrunk, stretched, AtMost, Largest}

one_more : 2 ^ 60 * shrunk 28 < suc gain * suc gain * stretched 28
one_more = lit< tt

pub gain_largest : Largest gain
gain_largest = record {
  holds = lit≤ tt;
  none_larger = λ n h. pick n h (dec_le n gain);
}
  where
    over : (n : ℕ) → AtMost n → suc gain ≤ n → ⊥
    over n h l = lt_irrefl (2 ^ 60 * shrunk 28) (lt_of_lt_of_le one_more (le_trans (mul-le-mul_right (stretched 28) (mul-le-mul l l)) h))

    pick : (n : ℕ) → AtMost n → Dec (n ≤ gain) → n ≤ gain
    pick n h (yes l) = l
    pick n h (no l) = absurd (over n h (omega arith))
