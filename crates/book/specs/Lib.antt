pub mod Limits
pub mod Book
pub mod Lines
pub mod Checked
pub mod Calls
pub mod Lookups
pub mod Workings
pub mod Single
