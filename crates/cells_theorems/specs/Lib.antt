pub mod Terms
pub mod Traces
pub mod Reached
pub mod Moments
pub mod Attempts
