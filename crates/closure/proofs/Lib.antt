pub mod Bits
pub mod Sets
pub mod Nulls
pub mod Stepping
pub mod Paths
pub mod Reaching
pub mod Ranking
