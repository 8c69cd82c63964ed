pub mod Meaning
pub mod Soundness
