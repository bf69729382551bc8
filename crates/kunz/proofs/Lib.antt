pub mod MultiplesFound
pub mod ResidueBits
