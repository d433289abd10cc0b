-- The calls: what each answers and leaves in every lent buffer, on all inputs.
pub mod Job
pub mod Load
pub mod Run
pub mod Fetch
pub mod Read
pub mod Whole
