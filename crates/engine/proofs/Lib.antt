pub mod RunLaws
pub mod PlayedLaws
pub mod Claims
pub mod ExampleLaws
pub mod Versions
pub mod FirstLaws
