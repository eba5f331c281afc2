pub mod Text
pub mod Pieces
pub mod Longest
pub mod Samples
