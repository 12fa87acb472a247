pub mod Primes
pub mod Roots
pub mod Tables
