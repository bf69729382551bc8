pub mod Residues
pub mod WordCoordinates
pub mod Said
pub mod RoundTrips
pub mod Compositions
pub mod Cases
