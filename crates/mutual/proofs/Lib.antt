pub mod Agreement
pub mod Octets
pub mod Rows
