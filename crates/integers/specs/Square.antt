-- The square of a whole number, as a natural one. Assumes nothing.
use Rattle.std.specs.Prelude.{ℕ, ◌*◌, ℤ, nat_abs}

abbrev pub square : ℤ → ℕ
square x = nat_abs x * nat_abs x
