-- Laws of one rotation that the crates above cite: its words by position, its counts, and what the loops of the crate `rows` come to.
pub mod Places
pub mod Column
pub mod Turn
pub mod Locality
pub mod Counts
pub mod Pairs
pub mod Stores
