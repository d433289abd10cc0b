-- The desk's laws: lists of calls, and what holds of each.
pub mod Calls
pub mod Refusals
pub mod Views
pub mod Ledger
pub mod Alone
pub mod Isolation
pub mod Rounds
pub mod Unloaded
pub mod Loads
pub mod Sectors
pub mod Results
pub mod Finish
pub mod Served
pub mod Early
pub mod Numbers
