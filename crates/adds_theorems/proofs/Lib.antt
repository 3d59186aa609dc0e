pub mod Continuing
pub mod Cells
pub mod SameNotes
pub mod Moments
pub mod SwapKind
pub mod Adding
pub mod Entries
pub mod MomentExamples
