pub mod Refusals
pub mod Asked
