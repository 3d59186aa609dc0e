mod Ranges
mod Fitting
