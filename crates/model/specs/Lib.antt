pub mod Choice
pub mod Lists
pub mod Search
pub mod Tables
