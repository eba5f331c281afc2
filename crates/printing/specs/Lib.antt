pub mod Appended
pub mod Page
pub mod Text
pub mod Answered
pub mod Longest
