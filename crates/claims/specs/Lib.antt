pub mod Claims
pub mod Columns
pub mod Numbers
pub mod Statements
pub mod Examples
