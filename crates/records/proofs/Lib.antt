pub mod Held
mod Loads
