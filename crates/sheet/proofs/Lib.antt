pub mod Outcomes
pub mod Bounds
pub mod Cutting
pub mod Lengths
pub mod Stepping
pub mod Calling
