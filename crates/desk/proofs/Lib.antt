-- Laws of the calls that several proofs cite.
pub mod Accepted
pub mod Refused
pub mod Chunks
pub mod Totals
pub mod Fetched
pub mod Operator
