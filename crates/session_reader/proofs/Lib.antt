pub mod Arms
pub mod Turns
pub mod Denoting
pub mod Standing
pub mod Repeated
pub mod Walks
pub mod Forming
pub mod Verdicts
mod Examples
mod Listed
pub mod Parsing
