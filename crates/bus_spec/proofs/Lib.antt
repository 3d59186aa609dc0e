pub mod Totals
pub mod Calls
pub mod Longest
pub mod Between
pub mod Fits
pub mod Printed
