pub mod Text
pub mod Answer
pub mod Texts
pub mod Storing
pub mod Steps
pub mod Unique
pub mod Examples
