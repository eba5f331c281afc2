pub mod CeilingLaws
pub mod SweepLaws
