-- From the definitions of the workspace and the calls to the accuracy of a list of calls, and that its premise can be met.
pub mod Gram
pub mod Accurate
pub mod WorkspaceAfter
pub mod Loading
pub mod Finished
pub mod Start
pub mod Demand3
pub mod Lengths
pub mod Antennas
pub mod Refused
pub mod Stray
pub mod Possible
pub mod Mixed
pub mod WholeDemand3
pub mod Instalments
