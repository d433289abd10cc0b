-- Laws of words as bytes.
pub mod Words
pub mod Bytes
pub mod Twos
