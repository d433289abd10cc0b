-- Document 02, U14, over lists of calls: what the log holds after adds and sweeps; what a sweep leaves, and that it erases nothing; reading back; and days and
-- numbers as tables.
pub mod Calls
pub mod Logged
pub mod Swept
pub mod Reading
pub mod Month
pub mod Dated
pub mod Numbers
