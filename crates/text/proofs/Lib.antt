pub mod Letters
pub mod Spelling
