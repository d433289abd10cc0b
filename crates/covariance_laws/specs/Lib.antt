-- The theorems on snapshots added up, and on the record that is written of the sums.
pub mod Snapshots
pub mod Accumulated
pub mod WrittenMatrix
pub mod Hermitian
pub mod HeardByPower
pub mod Reckoned
