pub mod Bytes
pub mod Lines
pub mod Append
pub mod Page
pub mod Readers
pub mod Answers
pub mod Arguments
