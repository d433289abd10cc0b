-- Document 01, "The words": the gain is the largest whole number whose square, times the product of (1 + 2^(-2i)) for i from 0 to 27, is at
-- most 2^60. Over whole numbers: that product is stretched 28 / shrunk 28. Assumes nothing.
use Rattle.std.specs.Prelude.{ℕ, zero, suc, ◌+◌, ◌*◌, ◌^◌, ◌≤◌}

-- the product of 4^i, and that of 4^i + 1, for i below n
abbrev pub shrunk : ℕ → ℕ
shrunk zero = 1
shrunk (suc i) = shrunk i * (2 ^ i * 2 ^ i)

abbrev pub stretched : ℕ → ℕ
stretched zero = 1
stretched (suc i) = stretched i * (2 ^ i * 2 ^ i + 1)

-- the square of g, times stretched / shrunk, is at most 2^60
abbrev pub AtMost : ℕ → Type 0
AtMost g = g * g * stretched 28 ≤ 2 ^ 60 * shrunk 28

-- g is such a number, and every such number is at most g. This does not fix the 28: the factors for larger i are so near to 1 that the largest number is
-- the same for every count of micro-rotations from 15 on, 26 to 30 among them. The marked case M12 (`cases` in the crate `engine_laws`) fixes it: n
-- micro-rotations take (-1, 0) to the upper word n, which step 3 then scales, to 16 with 26 or 27 of them, to 17 with 28, and to 18 with 29 or 30
pub record Largest (g : ℕ) : Type 0 where
  pub holds : AtMost g
  pub none_larger : (n : ℕ) → AtMost n → n ≤ g
