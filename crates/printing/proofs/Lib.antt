pub mod AppendLaws
pub mod PageLaws
pub mod JoinedLaws
pub mod NumberLaws
pub mod TextLaws
pub mod AnsweredLaws
pub mod LengthLaws
pub mod LongestLaws
