pub mod Jobs
pub mod Schedule
pub mod Statement
pub mod Scheduler
pub mod Examples
pub mod Synchronous
pub mod Ties
