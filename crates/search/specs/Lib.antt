pub mod Wanted
pub mod Private
