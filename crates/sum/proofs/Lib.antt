pub mod Merges
pub mod Steps
