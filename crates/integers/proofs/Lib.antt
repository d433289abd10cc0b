-- Laws of the whole numbers, a ring solver, bounds, sums, shifts, square roots, and claims that are tested by computing.
pub mod Laws
pub mod Order
pub mod Ring
pub mod RingTests
pub mod Within
pub mod Magnitude
pub mod Floor
pub mod Sum
pub mod Root
pub mod Claim
