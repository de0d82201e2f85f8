pub mod Contents
pub mod Guarantee
pub mod Matching
pub mod Calls
pub mod Lent
pub mod View
pub mod Promises
