-- Their proofs; a theorem's proof stands in the file of the same name.
pub mod Places
pub mod Format
pub mod Keeping
pub mod Swept
pub mod Logged
pub mod Reading
pub mod Month
