pub mod Splitting
pub mod Forming
pub mod Taking
