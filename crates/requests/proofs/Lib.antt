pub mod Requests
pub mod Cases
