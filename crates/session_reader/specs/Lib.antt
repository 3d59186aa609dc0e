pub mod Reading
pub mod Tables
pub mod Kept
pub mod Answers
