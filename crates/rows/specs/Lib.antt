-- The columns of two rows of words of any type.
pub mod Lanes
