-- Snapshots added up, and the matrix record of the sums: what each call answers and leaves in every lent buffer, on all inputs.
pub mod Sums
pub mod AddSnapshot
pub mod WriteMatrix
