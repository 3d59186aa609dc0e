pub mod Bus
pub mod Choices
pub mod Examples
