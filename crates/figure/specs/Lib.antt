pub mod Figure
pub mod StandIns
pub mod Traces
pub mod Exchange
