-- The words, and one rotation of a column's two words, over the whole numbers.
pub mod Word
pub mod MicroRotation
pub mod Gain
pub mod Norm
pub mod Range
