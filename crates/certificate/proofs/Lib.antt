pub mod Places
pub mod Misuses
