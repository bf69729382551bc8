pub mod Wanted
pub mod Possible
pub mod OfMultiplicity
pub mod Cuts
pub mod FirstWith
pub mod Cases
