-- Lists by position, tests on every number below a bound, and lists of calls.
pub mod Lists
pub mod Histories
