pub mod Hits
pub mod Flips
pub mod Heads
pub mod Turns
pub mod Walks
