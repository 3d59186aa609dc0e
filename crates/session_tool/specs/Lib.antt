pub mod Totals
pub mod Loop
