-- Laws that several proofs cite.
pub mod Machine
pub mod Ranges
pub mod Normalized
pub mod Elements
pub mod Accepted
pub mod Adding
