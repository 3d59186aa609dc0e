pub mod Figure
pub mod Questions
pub mod Entries
pub mod History
pub mod Paths
pub mod Consensus
pub mod Examples
