pub mod Flipping
