pub mod Writing
pub mod MinimalGenerators
pub mod GivenBack
pub mod Joining
pub mod Stages
pub mod LowGenerators
pub mod Cases
