pub mod DivisorLaws
pub mod MultipleLaws
pub mod JoinLaws
