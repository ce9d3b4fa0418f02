pub mod Bivariate
