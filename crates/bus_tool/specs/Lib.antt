pub mod Kinds
pub mod Refusals
pub mod Structs
pub mod Loop
