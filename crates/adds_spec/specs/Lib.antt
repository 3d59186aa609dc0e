pub mod Requests
pub mod Demand3
pub mod Adds
pub mod Sums
pub mod Seen
pub mod Adding
