-- The workspace: R and Q in it, what loading and reading put there, and rotations of it.
pub mod Workspace
pub mod Loading
pub mod Reading
pub mod Rotations
pub mod Places
