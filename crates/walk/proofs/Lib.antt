pub mod Walks
pub mod Batches
pub mod FreshWalks
