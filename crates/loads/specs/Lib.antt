pub mod Answers
pub mod Bits
pub mod Loads
pub mod Tests
pub mod Totals
pub mod Presence
pub mod Exchange
pub mod Sameness
