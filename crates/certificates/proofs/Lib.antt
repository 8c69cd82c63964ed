pub mod Rounding
pub mod Sharp
pub mod Drawing
