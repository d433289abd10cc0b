-- Document 01, "The words" and steps 3 and 4 of "One turn": how a word is scaled and stored. `shr_z z (2 ^ k)` is the language's own signed
-- shift to the right by k, which rounds down: -1 shifted stays -1. Assumes nothing.
use Rattle.std.specs.Prelude.{ℕ, ◌^◌, true, false, cond, ℤ, pos, negsuc, ◌+ℤ◌, ◌*ℤ◌}
use Rattle.std.specs.Int.Signed.{lt_z, shr_z}
use Rattle.cordic.specs.declared.Word.{Word}

-- the gain: what 28 micro-rotations stretch is scaled by gain / 2^30
abbrev pub gain : ℕ
gain = 652032874

-- step 3: w becomes the floor of (w × gain + 2^29) / 2^30
unfoldable pub scaled : ℤ → ℤ
scaled w = shr_z (w *ℤ pos gain +ℤ pos 536870912) (2 ^ 30)

-- step 4, document 01's clamp: s as it is stored, and whether that alters it. `negsuc n` is -(n + 1)
unfoldable pub saturate : ℤ → Word
saturate s =
    cond (lt_z s (negsuc 2147483647)) (record { value = negsuc 2147483647; saturated = true })
    (cond (lt_z (pos 2147483647) s) (record { value = pos 2147483647; saturated = true })
    (record { value = s; saturated = false }))
