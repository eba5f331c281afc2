pub mod Results
pub mod Slices
pub mod Lent
