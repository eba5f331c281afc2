pub mod Text
pub mod Longest
pub mod Statements
