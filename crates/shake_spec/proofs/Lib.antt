pub mod Draws
pub mod Writing
pub mod Zeros
pub mod Shaking
pub mod Allowed
pub mod Accepted
pub mod ReadShaken
pub mod NoNoLine
