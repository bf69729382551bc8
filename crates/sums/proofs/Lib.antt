pub mod Divisors
pub mod Sums
pub mod Few
pub mod WordFrom
pub mod SameAnswers
pub mod Scan
pub mod Cases
