pub mod Fits
pub mod Known
pub mod Words
