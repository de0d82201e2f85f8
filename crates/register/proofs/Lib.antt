pub mod Judging
pub mod Viewing
pub mod Replaying
pub mod Entering
pub mod Answering
pub mod Between
pub mod Settling
