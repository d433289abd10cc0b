-- Laws of the workspace: where its words stand in records, what loading puts there, what a turn of it keeps, and when none is made.
pub mod Places
pub mod Products
pub mod GivensStep
pub mod WordsAfter
pub mod SameWords
pub mod Filled
pub mod Finished
