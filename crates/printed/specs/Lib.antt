pub mod Direct
pub mod Meaning
pub mod Printed
