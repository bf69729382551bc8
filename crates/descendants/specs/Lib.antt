pub mod Descendants
pub mod Cut
