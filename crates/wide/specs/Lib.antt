-- What 64-bit words promise of columns.
pub mod Words
