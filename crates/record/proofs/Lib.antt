pub mod Answers
pub mod Bytes
pub mod Loops
pub mod Narrow
pub mod Sections
