pub mod Remainders
pub mod Ring
pub mod Primality
pub mod Primes
pub mod Inverse
pub mod Quotients
mod Residues
pub mod Slopes
mod Horner
pub mod Sums
mod Reductions
