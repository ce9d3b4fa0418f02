pub mod Answers
pub mod Computed
pub mod Shares
