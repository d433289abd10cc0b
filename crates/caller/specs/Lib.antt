-- What a caller of all calls answers and leaves.
pub mod Caller
