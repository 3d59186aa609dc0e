pub mod Terms
pub mod Moments
