pub mod ClaimLaws
pub mod ColumnLaws
pub mod Claims
pub mod ExampleLaws
pub mod Versions
pub mod FirstLaws
