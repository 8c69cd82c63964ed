pub mod Numbers
pub mod Words
pub mod Borrowed
pub mod Writing
