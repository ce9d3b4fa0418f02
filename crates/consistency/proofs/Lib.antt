pub mod Reports
pub mod Fours
