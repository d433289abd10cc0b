-- The words in which bounds, sums and matrices of whole numbers are stated.
pub mod Within
pub mod Sum
pub mod Square
pub mod Matrix
