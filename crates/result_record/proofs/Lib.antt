-- Laws of the result record: its words by bytes, that it is its words and they are it, and what its tests say.
pub mod ResultRecord
pub mod Accepted
pub mod Finished
pub mod Rows
