-- The result record.
pub mod ResultRecord
