pub mod Equality
pub mod Places
pub mod StoredStates
