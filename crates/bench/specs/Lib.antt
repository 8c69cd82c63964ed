pub mod Runs
pub mod Scores
pub mod Guarantee
