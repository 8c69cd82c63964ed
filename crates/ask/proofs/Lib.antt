pub mod WordLemmas
pub mod Told
