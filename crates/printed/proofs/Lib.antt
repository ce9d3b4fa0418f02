pub mod Direct
pub mod Examples
pub mod Meaning
pub mod Printed
pub mod Missing
