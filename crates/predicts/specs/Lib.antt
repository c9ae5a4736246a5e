pub mod Predicts
pub mod Seen
