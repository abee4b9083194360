pub mod Pedigree
pub mod Clerks
pub mod Carrying
pub mod LineTotals
pub mod Counting
pub mod Asked
pub mod Working
