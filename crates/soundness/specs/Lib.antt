pub mod Sheets
pub mod Sound
