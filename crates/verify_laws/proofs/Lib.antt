-- Their proofs; a theorem's proof stands in the file of the same name.
pub mod Answers
pub mod Fitting
pub mod Written
pub mod Deviating
pub mod Columns
