-- Laws that several proofs cite.
pub mod Floats
pub mod Parts
