pub mod Basics
pub mod Record
pub mod Answers
pub mod Lines
pub mod Memory
pub mod Paths
