pub mod Sums
pub mod Tables
pub mod Vectors
pub mod Bags
pub mod Meant
