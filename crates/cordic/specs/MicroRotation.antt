-- Document 01, steps 1 and 2 of "One turn": a column's two words, negated where the upper leading word is negative, and their 28
-- micro-rotations (document 01's micro-steps). Assumes nothing.
use Rattle.std.specs.Prelude.{ℕ, zero, suc, ◌^◌, Bool, true, false, ℤ, neg_ℤ, ◌+ℤ◌, ◌-ℤ◌}
use Rattle.std.specs.Int.Signed.{non_neg, shr_z}
use Rattle.cordic.specs.declared.Pair.{Pair}

-- step 1: a word, negated where the upper leading word is negative
unfoldable pub oriented : Bool → ℤ → ℤ
oriented true w = neg_ℤ w
oriented false w = w

-- both words of a column, oriented
unfoldable pub oriented_pair : Bool → ℤ → ℤ → Pair
oriented_pair negate x y = record { u = oriented negate x; v = oriented negate y }

-- step 2: micro-rotation i; positive where the leading column's v is 0 or more. Both words are formed from those before it
unfoldable pub micro_rotation_of : ℕ → Bool → Pair → Pair
micro_rotation_of i true p = record { u = p.u +ℤ shr_z p.v (2 ^ i); v = p.v -ℤ shr_z p.u (2 ^ i) }
micro_rotation_of i false p = record { u = p.u -ℤ shr_z p.v (2 ^ i); v = p.v +ℤ shr_z p.u (2 ^ i) }

-- a column's words after its first n micro-rotations, with s i the direction of micro-rotation i
unfoldable pub micro_rotations : (ℕ → Bool) → ℕ → Pair → Pair
micro_rotations s zero p = p
micro_rotations s (suc n) p = micro_rotation_of n (s n) (micro_rotations s n p)

-- the leading column's words after its first n micro-rotations: the sign of its own v decides
unfoldable pub leading : ℕ → Pair → Pair
leading zero p = p
leading (suc n) p =
    let q = leading n p in
    micro_rotation_of n (non_neg q.v) q

-- the direction of micro-rotation n, which the leading words p decide for all columns
unfoldable pub sign : Pair → ℕ → Bool
sign p n = non_neg (leading n p).v
