pub mod FindingLaws
pub mod ColumnLaws
pub mod EndLaws
pub mod ResultLaws
pub mod Past
pub mod Within
pub mod Versions
pub mod FirstLaws
