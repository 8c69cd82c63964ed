pub mod Meaning
pub mod Makings
pub mod Held
pub mod Choosing
