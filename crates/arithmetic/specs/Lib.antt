pub mod Semiring
pub mod Capped
pub mod Amounts
pub mod YesOrNo
pub mod Waits
pub mod Squares
