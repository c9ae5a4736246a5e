pub mod Tokens
pub mod Symbols
pub mod Searching
pub mod Records
pub mod Popping
pub mod Corrections
pub mod Deleting
pub mod Downwards
