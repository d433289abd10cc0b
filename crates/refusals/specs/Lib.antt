-- The refusal numbers, the tests that every call shares, and the refusal record.
pub mod Refusals
pub mod Outcomes
