pub mod Quotient
pub mod Answer
pub mod Examples
