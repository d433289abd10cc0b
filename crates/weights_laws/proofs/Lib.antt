-- Their proofs; a theorem's proof stands in the file of the same name.
pub mod Magnitude
pub mod Rows
pub mod Answers
pub mod Solved
pub mod Finite
pub mod Weighable
pub mod Possible
