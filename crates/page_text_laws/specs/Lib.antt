-- The theorems on pages.
pub mod Reading
pub mod Uncut
pub mod Lines
pub mod Distinct
pub mod LongInput
pub mod Printed
