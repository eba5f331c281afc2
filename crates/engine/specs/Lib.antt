pub mod Run
pub mod Outcome
pub mod Held
pub mod Statements
pub mod Example
