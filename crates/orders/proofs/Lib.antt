pub mod Answering
pub mod Endless
