pub mod Sheets
pub mod Chains
pub mod Tables
pub mod Asking
pub mod Loops
pub mod Adopting
pub mod Bounds
pub mod Agreeing
