pub mod JoinLaws
pub mod PieceLaws
pub mod RuleLaws
pub mod ByteLaws
pub mod Encoding
pub mod Shapes
pub mod Examples
