pub mod Pairs
pub mod Falls
