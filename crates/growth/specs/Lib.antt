pub mod Sums
pub mod Added
pub mod Closing
pub mod Along
