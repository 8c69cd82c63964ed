pub mod Rows
pub mod Tried
