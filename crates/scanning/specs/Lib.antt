pub mod Reading
pub mod Read
pub mod Steps
pub mod Pieces
pub mod Back
pub mod Examples
pub mod Faults
