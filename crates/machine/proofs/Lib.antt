pub mod BitLaws
pub mod Positions
pub mod WordLaws
pub mod MachineLaws
pub mod SameLaws
pub mod StepLaws
pub mod ReleaseLaws
pub mod ExampleLaws
