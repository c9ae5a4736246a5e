pub mod Choices
pub mod Telling
pub mod Clearing
pub mod Written
pub mod Blank
