-- The desk, and its calls: what each answers and leaves in every lent buffer, on all inputs.
pub mod Desk
pub mod Roles
pub mod HandIn
pub mod Run
pub mod Fetch
pub mod Heard
pub mod Rounds
pub mod Shares
pub mod Replies
