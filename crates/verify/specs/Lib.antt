-- The answer to a matrix record and a result record, on all inputs; and what only inner functions use.
pub mod Verify
pub mod Sums
