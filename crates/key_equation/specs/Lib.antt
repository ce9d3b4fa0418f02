pub mod Solving
pub mod Solved
pub mod Partial
