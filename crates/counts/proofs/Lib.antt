pub mod BranchCounts
pub mod Counts
