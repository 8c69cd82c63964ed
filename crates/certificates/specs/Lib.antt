pub mod Means
pub mod Checks
pub mod Readouts
pub mod Certified
