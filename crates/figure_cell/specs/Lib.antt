pub mod Memory
pub mod Paths
