pub mod HeardLaws
pub mod SpellingLaws
