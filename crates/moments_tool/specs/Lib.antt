pub mod Words
pub mod Notes
pub mod Loop
