-- Document 02, U13: what yes, no and a refusal say; that what the engine writes gets yes with its matrix; that a yes does not promise U6's clause; and
-- verdicts in numbers.
pub mod Answers
pub mod Written
pub mod Columns
pub mod Judged
pub mod Summed
