pub mod Beginning
pub mod Decimals
pub mod Finding
pub mod Lexemes
pub mod Lines
pub mod Places
pub mod Reading
