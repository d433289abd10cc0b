-- Their proofs; a theorem's proof stands in the file of the same name.
pub mod Terms
pub mod SumsAfter
pub mod Accumulated
pub mod WrittenMatrix
pub mod Hermitian
pub mod HeardByPower
pub mod Possible
pub mod Written
