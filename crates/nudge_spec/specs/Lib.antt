pub mod Exchange
pub mod Nudge
pub mod Examples
