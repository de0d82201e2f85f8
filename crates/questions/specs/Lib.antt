pub mod Placed
pub mod Topics
pub mod Questions
pub mod Asking
