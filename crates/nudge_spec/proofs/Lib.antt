pub mod Moved
pub mod Ledger
pub mod Finished
pub mod Exchange
pub mod Nudge
