pub mod Linearized
