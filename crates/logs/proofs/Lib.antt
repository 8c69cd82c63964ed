pub mod Shifts
pub mod Sound
pub mod Gaps
pub mod Walking
pub mod Adding
pub mod Filling
