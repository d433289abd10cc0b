-- The matrix record.
pub mod MatrixRecord
