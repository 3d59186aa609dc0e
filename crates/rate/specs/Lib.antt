pub mod Rate
pub mod Nearest
pub mod Examples
