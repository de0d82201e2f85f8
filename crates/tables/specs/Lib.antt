pub mod Citing
pub mod Placing
pub mod Trails
