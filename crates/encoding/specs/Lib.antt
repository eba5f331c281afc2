pub mod Bytes
pub mod Statements
pub mod Examples
pub mod VersionThree
