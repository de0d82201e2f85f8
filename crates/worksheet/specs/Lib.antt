pub mod Claims
pub mod Replay
pub mod Derivations
