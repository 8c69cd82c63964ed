pub mod Neighbours
pub mod Widening
pub mod Lowest
pub mod Cuts
pub mod Ahead
pub mod Windows
