pub mod Changes
pub mod States
pub mod StateChanges
pub mod Histories
pub mod Cases
