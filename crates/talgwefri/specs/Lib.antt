pub mod Held
pub mod Lent
