pub mod Bytes
pub mod Format
pub mod Fields
