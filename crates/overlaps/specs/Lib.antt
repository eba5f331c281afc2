pub mod Outcome
pub mod Columns
pub mod Numbers
pub mod Statements
