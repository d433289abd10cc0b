-- Demand 3: what a worked matrix is, lists of calls, what is promised of each list, and lists that meet its premise; what a worked matrix says of lengths and
-- antennas.
pub mod Factorization
pub mod Lengths
pub mod Antennas
pub mod Demand3
pub mod WholeDemand3
pub mod Instalments
