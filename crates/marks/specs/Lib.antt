pub mod Marks
pub mod Invariant
