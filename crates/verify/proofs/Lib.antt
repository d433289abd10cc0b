-- Laws that several proofs cite on the pairs of both families, and those of sums in two parts.
pub mod Families
pub mod Parts
