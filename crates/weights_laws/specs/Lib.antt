-- The theorems on the weights of a result record.
pub mod Replies
pub mod Finite
pub mod Solved
pub mod Weighable
pub mod Weighed
pub mod Judged
