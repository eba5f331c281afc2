pub mod Utilisation
pub mod Bound
