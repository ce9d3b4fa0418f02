pub mod Mixing
pub mod Solving
mod Loops
mod Parts
mod Rooting
mod Starting
mod Stepping
mod Turns
pub mod Given
