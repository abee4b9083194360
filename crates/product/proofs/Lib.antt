pub mod Touched
pub mod Chains
pub mod Meets
pub mod Linking
pub mod Resting
pub mod Multiplies
