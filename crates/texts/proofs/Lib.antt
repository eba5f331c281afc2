pub mod TextLaws
pub mod GivenLaws
