-- Laws of numbers in decimal, of the columns that they stand in, and of the page.
pub mod Decimal
pub mod Spelling
pub mod Page
