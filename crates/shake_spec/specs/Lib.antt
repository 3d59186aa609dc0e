pub mod Generator
pub mod GeneratorExamples
pub mod Drawn
pub mod Actions
pub mod Shaken
pub mod Played
pub mod Examples
