-- Laws of 32-bit words and of the columns that are worked in them, which several proofs cite.
pub mod Mask
pub mod Norms
