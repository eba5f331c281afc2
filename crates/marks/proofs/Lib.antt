pub mod PassLaws
pub mod MarkLaws
