pub mod Answering
pub mod Continuing
pub mod Replaying
pub mod Finishing
pub mod Measuring
