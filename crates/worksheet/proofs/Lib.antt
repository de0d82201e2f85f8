pub mod Numbering
pub mod Following
