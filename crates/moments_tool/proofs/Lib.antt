pub mod Sorting
pub mod Encoding
pub mod Noting
pub mod Ruling
mod Printing
mod Keeping
mod Doing
mod Seeing
mod Marking
mod Starting
