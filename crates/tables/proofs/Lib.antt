pub mod Citing
pub mod Places
pub mod Signs
pub mod Strides
pub mod Writing
