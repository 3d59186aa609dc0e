pub mod Moments
pub mod WithdrawnRule
pub mod Attempts
pub mod MomentExamples
