-- Laws of the format, of a sweep in the making, and of the calls.
pub mod Views
pub mod Runs
pub mod Heads
pub mod EntryBytes
pub mod Scanning
pub mod Sweeping
pub mod Calls
pub mod Copying
