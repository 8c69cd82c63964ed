pub mod Tickets
pub mod Out
pub mod Views
pub mod Calls
pub mod Noted
pub mod Levels
pub mod Past
