pub mod Way
pub mod Answers
pub mod Children
pub mod FirstGrandchildren
pub mod Cases
