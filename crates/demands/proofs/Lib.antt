pub mod Demand3
pub mod Useful
pub mod Relatives
pub mod Cases
