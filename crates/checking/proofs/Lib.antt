pub mod ListLaws
pub mod LineLaws
pub mod SampleLines
