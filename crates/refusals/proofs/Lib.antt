-- What the number of tests in sequence says.
pub mod Refusals
pub mod Outcomes
