pub mod Arguments
pub mod Filtered
pub mod Input
