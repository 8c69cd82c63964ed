pub mod Reading
pub mod Reporting
pub mod Setting
pub mod Entering
pub mod Words
