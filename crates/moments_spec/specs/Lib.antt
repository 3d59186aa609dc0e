pub mod Lines
pub mod LineExamples
pub mod Printed
pub mod Examples
