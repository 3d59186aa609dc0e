pub mod Appending
pub mod Decimal
pub mod Spaced
pub mod Reading
pub mod ReadBack
pub mod Several
pub mod Zeros
mod Counted
pub mod Pages
