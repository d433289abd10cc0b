-- Where a rotation can be worked in 32-bit words.
pub mod Narrow
