pub mod Below
pub mod Division
pub mod Raising
pub mod Schemes
pub mod Uniqueness
pub mod Few
pub mod Together
