pub mod Table
pub mod Log
pub mod Least
pub mod Plan
pub mod Run
pub mod Theorems
pub mod Bench
pub mod Figures
