pub mod States
pub mod Pile
pub mod Windows
pub mod Tests
pub mod Ways
pub mod Push
