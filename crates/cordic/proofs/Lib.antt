-- The gain, what the micro-rotations do to any 32-bit words, and the error of one rotation.
pub mod Gain
pub mod Growth
pub mod Words
pub mod Step
pub mod Telescope
pub mod Residue
pub mod Scale
pub mod ColumnRotation
