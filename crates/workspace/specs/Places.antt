-- Only the contract of an inner function uses this: where the words of a result record stand in the workspace. Assumes nothing.
use Rattle.std.specs.Prelude.{ℕ, ◌+◌, ◌*◌, ◌/◌, ◌%◌}

-- the position of the record's word m
abbrev pub place_of : ℕ → ℕ
place_of m = m % 256 / 16 * 32 + m / 256 * 16 + m % 16
