-- The rows of the table, how it reads when it is laid out flat, and what follows from the order of the rotations alone.
pub mod Rows
pub mod Flat
pub mod Pairing
pub mod Clear
pub mod Finished
pub mod Diagonal
