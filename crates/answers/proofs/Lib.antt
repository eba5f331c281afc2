pub mod ReadLaws
pub mod TextLaws
