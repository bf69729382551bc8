pub mod Decimal
pub mod Text
pub mod Writing
pub mod Pages
pub mod Program
pub mod NoInput
