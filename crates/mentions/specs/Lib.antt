pub mod Mentions
pub mod Putting
pub mod Gathering
pub mod Reaching
