pub mod RowLaws
pub mod StageLaws
pub mod HeldLaws
pub mod DelayLaws
