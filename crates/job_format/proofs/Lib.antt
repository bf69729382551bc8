pub mod Cases
pub mod Bytes
pub mod Format
