-- Words as bytes.
pub mod Words
