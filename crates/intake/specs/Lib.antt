pub mod Intake
pub mod Events
pub mod Numbers
pub mod Messages
