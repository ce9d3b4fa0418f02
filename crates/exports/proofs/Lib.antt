pub mod Answers
pub mod Near
pub mod Opened
