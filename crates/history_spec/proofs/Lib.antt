pub mod Basics
pub mod ListTests
pub mod OnCell
pub mod Examples
pub mod BoundExamples
pub mod OrderExamples
