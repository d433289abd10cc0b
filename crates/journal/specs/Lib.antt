-- The log: its format, how long entries stay, and the calls.
pub mod Entry
pub mod Held
pub mod Retention
pub mod Outcome
pub mod Add
pub mod Sweep
pub mod Compaction
pub mod Next
pub mod Kind
pub mod Head
pub mod Replies
