pub mod GroupLaws
pub mod AnsweringLaws
