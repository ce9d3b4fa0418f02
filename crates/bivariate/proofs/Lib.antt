pub mod Crossing
pub mod Bivariate
pub mod Terms
pub mod Lent
mod Spaced
mod Loops
