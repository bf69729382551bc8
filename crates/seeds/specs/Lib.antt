pub mod Seeds
pub mod Child
pub mod Grandchildren
pub mod GreatGrandchildren
