pub mod Trying
pub mod Looking
pub mod Matching
