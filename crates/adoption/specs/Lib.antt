pub mod Worksheets
pub mod Tables
pub mod Adopting
pub mod Theorems
