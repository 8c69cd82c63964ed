pub mod Lines
pub mod Jobs
pub mod Values
pub mod Said
pub mod Reading
