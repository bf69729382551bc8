pub mod Changes
pub mod States
pub mod Histories
