-- Only the law of 64-bit words uses this: the numbers that they have in a rotation. Assumes nothing.
use Rattle.std.specs.Prelude.{ℕ, ◌+◌, ◌^◌, ◌≤◌, Bool, ℤ}
use Rattle.std.specs.Int.Signed.{mag}
use Rattle.cordic.specs.declared.Pair.{Pair}
use Rattle.cordic.specs.MicroRotation.{micro_rotations, oriented_pair}
use Rattle.cordic.proofs.Words.{words_within}
use Rattle.rows.specs.Lanes.{Both, Words32}

-- so small that its product with the gain fits 64 bits
abbrev pub Wide : ℤ → Type 0
Wide z = mag z ≤ 2 ^ 33 + 2 ^ 32

-- any column can be worked
abbrev pub AnyColumn : Pair → Type 0
AnyColumn p = Unit {0}

-- its words are that small through all 28 micro-rotations
pub wide_stays : (p : Pair) → Words32 p → AnyColumn p → (negate : Bool) (s : ℕ → Bool) (n : ℕ) → n ≤ 28 → Both Wide (micro_rotations s n (oriented_pair negate p.u p.v))
wide_stays p h any negate s n few =
    let w = words_within p h negate s n few in
    record { u = w.upper; v = w.lower }
