pub mod Deciding
pub mod Chains
