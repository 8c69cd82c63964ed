pub mod Held
pub mod Points
pub mod Fits
pub mod Buffers
pub mod Words
