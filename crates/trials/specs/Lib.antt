pub mod Tries
pub mod Looks
