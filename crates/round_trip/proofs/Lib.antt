pub mod Leads
pub mod LineLaws
pub mod RoundTrip
