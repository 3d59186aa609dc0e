pub mod Asked
pub mod Turns
