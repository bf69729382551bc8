pub mod Tallies
pub mod WordPlaces
pub mod RowPlaces
pub mod Places
pub mod Totals
pub mod Theorems
pub mod Cases
