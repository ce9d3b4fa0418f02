pub mod Outcomes
pub mod Transcript
