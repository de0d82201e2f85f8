pub mod Capacities
pub mod Room
pub mod States
pub mod Adding
pub mod Changing
pub mod Rounds
