pub mod Jobs
pub mod Units
pub mod Amounts
pub mod Sheets
pub mod Faults
