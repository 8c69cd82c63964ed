pub mod Noting
pub mod Tops
pub mod Clear
pub mod Ends
pub mod Steps
pub mod Pasts
