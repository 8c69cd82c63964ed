pub mod Told
pub mod Checks
pub mod Bounds
pub mod Words
