pub mod Digits
pub mod Request
