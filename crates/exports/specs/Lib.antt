pub mod Asking
pub mod Climate
pub mod Denied
pub mod Replies
