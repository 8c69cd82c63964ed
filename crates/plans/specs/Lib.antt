pub mod Ahead
pub mod Gaps
pub mod Widest
pub mod Meanings
pub mod Lawful
pub mod Ways
pub mod Either
