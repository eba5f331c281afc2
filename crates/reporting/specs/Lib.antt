pub mod Cutting
pub mod Report
pub mod Streaming
pub mod Longest
