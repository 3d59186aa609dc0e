mod Search
pub mod Stored
