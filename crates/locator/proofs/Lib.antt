pub mod Products
pub mod Locating
pub mod Exact
pub mod Answer
pub mod Examples
mod Dividing
mod Judging
mod Gathered
