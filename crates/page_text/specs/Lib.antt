-- Numbers in decimal, and the page of a result record.
pub mod Decimal
pub mod Page
