pub mod Fitting
pub mod Arrays
pub mod Deciding
