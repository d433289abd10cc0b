-- A sector by itself, and the proofs of the laws.
pub mod Records
pub mod Seats
pub mod Refusals
pub mod Rounds
pub mod Steady
pub mod Unloaded
pub mod Views
pub mod Ledgers
pub mod Alone
pub mod Isolation
pub mod Finish
pub mod Sectors
pub mod LastLoad
pub mod Results
pub mod Calm
pub mod Served
pub mod Early
