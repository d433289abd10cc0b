-- Laws of the matrix record, and of writing records, that several proofs cite.
pub mod MatrixRecord
pub mod Written
pub mod Writing
pub mod Heard
