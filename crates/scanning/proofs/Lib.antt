pub mod ByteLaws
pub mod WordLaws
pub mod StepLaws
pub mod PieceLaws
pub mod ReadLaws
pub mod BackLaws
pub mod ExampleLaws
pub mod FaultLaws
