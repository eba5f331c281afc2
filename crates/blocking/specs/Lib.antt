pub mod Ceilings
pub mod Slices
pub mod Sweep
