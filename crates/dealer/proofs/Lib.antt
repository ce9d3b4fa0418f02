pub mod Desk
pub mod Writing
