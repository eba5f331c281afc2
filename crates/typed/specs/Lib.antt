pub mod Bytes
pub mod Messages
pub mod Answered
pub mod Places
