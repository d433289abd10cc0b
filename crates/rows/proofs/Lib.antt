-- Laws of two rows of words, by the numbers that they stand for.
pub mod Rows
