pub mod Following
pub mod Exchanging
pub mod Steps
pub mod Naming
pub mod Asking
