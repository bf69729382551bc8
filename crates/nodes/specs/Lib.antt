pub mod Nodes
pub mod Levels
pub mod Branches
pub mod RowCounts
pub mod NewGaps
