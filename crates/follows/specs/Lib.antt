pub mod Follows
pub mod Feeding
pub mod Lasts
pub mod Begun
