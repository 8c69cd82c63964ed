pub mod Reading
pub mod Saying
pub mod Lines
pub mod Batches
pub mod Words
