pub mod Machine
pub mod Slices
pub mod Examples
