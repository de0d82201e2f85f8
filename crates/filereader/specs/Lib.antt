pub mod Windows
pub mod Readers
