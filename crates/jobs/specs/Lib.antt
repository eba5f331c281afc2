pub mod Overlaps
pub mod Slices
pub mod Answers
