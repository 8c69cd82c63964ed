pub mod Bits
pub mod Makings
pub mod Held
