pub mod Listed
mod Acting
pub mod Turning
pub mod Starting
pub mod Fresh
pub mod Texts
