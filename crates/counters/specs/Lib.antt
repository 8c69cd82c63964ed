pub mod Levels
pub mod Counting
pub mod Makings
pub mod Held
pub mod Totals
