pub mod Acting
pub mod Sizing
pub mod Starting
