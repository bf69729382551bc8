pub mod Multiplicities
pub mod Windows
pub mod Held
pub mod NotDivided
pub mod FirstWord
pub mod Cases
