pub mod AnsweredLaws
pub mod LongestLaws
