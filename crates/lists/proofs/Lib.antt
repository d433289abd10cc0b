-- Laws of lists by position, as loops and readers of records want them, and of lists of calls.
pub mod Tabulate
pub mod Filling
pub mod Joined
pub mod Passing
pub mod Histories
