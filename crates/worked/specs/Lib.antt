pub mod Stay
pub mod Compared
pub mod Played
pub mod Numbers
pub mod Starts
pub mod Past
