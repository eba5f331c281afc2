pub mod SearchLaws
pub mod TryingLaws
