pub mod Basics
pub mod History
pub mod Linearization
pub mod Demand3
pub mod Moments
