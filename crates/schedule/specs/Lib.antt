-- The order of the rotations.
pub mod Schedule
pub mod Pairing
