-- The theorems that the engine offers beside the contracts of its calls.
pub mod Tails
pub mod Unread
pub mod Silence
pub mod Spread
pub mod RoundTrip
pub mod Clear
pub mod Marked
pub mod Numbers
