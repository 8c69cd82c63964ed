pub mod Running
pub mod Replying
pub mod Setting
pub mod Leading
pub mod Printing
pub mod Laws
