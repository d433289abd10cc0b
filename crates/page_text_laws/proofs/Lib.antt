-- Why the theorems on pages hold.
pub mod Characters
pub mod Reading
pub mod Uncut
pub mod Lines
pub mod Distinct
pub mod LongInput
pub mod Possible
pub mod Same
