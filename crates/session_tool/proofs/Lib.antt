mod Lengths
mod Loops
pub mod Playing
mod Room
pub mod Outcomes
pub mod Counting
