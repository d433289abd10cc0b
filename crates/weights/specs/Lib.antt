-- The weights for the modem: the rule by which they are worked, and what the call answers, on all inputs.
pub mod Solution
pub mod Weights
