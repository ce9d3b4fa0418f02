pub mod Buffer
pub mod Bytes
pub mod Computed
pub mod Loops
pub mod RoundTrip
pub mod WayBack
