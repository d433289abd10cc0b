-- One rotation of the part of the workspace that begins at its upper row: its words by position, and its counts by column; and one turn, which is a
-- rotation or nothing.
pub mod Column
pub mod Rotated
pub mod Turn
pub mod Locality
pub mod Saturations
pub mod Stores
