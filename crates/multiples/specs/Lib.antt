pub mod Divisors
pub mod Multiples
