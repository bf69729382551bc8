pub mod NewWords
pub mod Resuming
pub mod Cut
pub mod Onward
pub mod Descendants
