pub mod Rounding
pub mod Demand
pub mod Answer
pub mod Sequence
pub mod Slices
pub mod Laws
pub mod Starts
pub mod Lent
