-- Their proofs; a theorem's proof stands in the file of the same name.
pub mod Tails
pub mod Unread
pub mod Silence
pub mod Spread
pub mod RoundTrip
pub mod Clear
