pub mod Behind
pub mod Given
