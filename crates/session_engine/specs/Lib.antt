pub mod Start
pub mod Tool
